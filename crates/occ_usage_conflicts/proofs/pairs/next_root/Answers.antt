use Rattle.std.proofs.Common.{◌<◌, ◌≤◌, length, arith}
use Rattle.occ_usage_conflicts.proofs.Once.{got_within}
use Rattle.occ_usage_conflicts.proofs.Targets.{no_clash_between}
use Rattle.occ_usage_conflicts.proofs.pairs.next_root.Goals as goal

pub returns-clause-none : goal.returns-clause-none
returns-clause-none c r l root from below =
    let all : length c.args.components.now ≤ c.loop-component.component-index = omega (arith, c.loop-component-test.false) in
    no_clash_between r l root c.args.from c.loop-component.next c.args.components.now (λ i k us u at here beyond.
    let w : i < length c.args.components.now = got_within c.args.components.now i us at in
    c.loop-component.invariant.2 i k us u (omega (arith, w, all)) at here beyond) from below
