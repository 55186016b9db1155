use Rattle.std.proofs.Common.{◌<◌, ◌≤◌, length, arith}
use Rattle.occ_usage_conflicts.proofs.Once.{got_within}
use Rattle.occ_usage_conflicts.proofs.Reaching.{no_clash}
use Rattle.occ_usage_conflicts.proofs.reach.last_root.Goals as goal

pub returns : goal.returns
returns c r root past =
    let all : length c.args.components.now ≤ c.loop-component.component-index = omega (arith, c.loop-component-test.false) in
    no_clash r root c.loop-component.last c.args.components.now (λ k j us u at here.
    let w : k < length c.args.components.now = got_within c.args.components.now k us at in
    c.loop-component.invariant k j us u (omega (arith, w, all)) at here) past
