use Rattle.std.proofs.Common.{◌<◌, ◌≤◌, length, arith}
use Rattle.occ_usage_conflicts.proofs.Once.{got_within}
use Rattle.occ_usage_conflicts.proofs.reach.greatest.Goals as goal

pub returns-clause-roots : goal.returns-clause-roots
returns-clause-roots c k u at =
    let w : k < length c.args.uses.now = got_within c.args.uses.now k u at in
    let all : length c.args.uses.now ≤ c.loop-one.one-index = omega (arith, c.loop-one-test.false) in
    c.loop-one.invariant.1 k u (omega (arith, w, all)) at
