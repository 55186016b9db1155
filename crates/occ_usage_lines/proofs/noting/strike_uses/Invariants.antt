use Rattle.occ_usage_lines.specs.inside.Noting.{AreKeptBelow}
use Rattle.occ_usage_lines.proofs.noting.strike_uses.Given as goal

abbrev pub invariant-loop-found : goal.invariant-loop-found
invariant-loop-found l = AreKeptBelow l.depth l.initial.lists.items l.lists.items
