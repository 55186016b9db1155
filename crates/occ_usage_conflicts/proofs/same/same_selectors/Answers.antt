use Rattle.std.proofs.Common.{sym}
use Rattle.occ_usage_conflicts.proofs.Equality.{other_lengths}
use Rattle.occ_usage_conflicts.proofs.same.same_selectors.Goals as goal

pub returns-then-a-b : goal.returns-then-a-b
returns-then-a-b c = sym (other_lengths c.args.a.now c.args.b.now c.if-a-b.true)
