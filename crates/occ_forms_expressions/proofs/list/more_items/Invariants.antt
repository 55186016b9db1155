use Rattle.occ_forms_expressions.specs.Reading.{IsEndOfItems}
use Rattle.occ_forms_expressions.specs.Spelling.{next_item_of}
use Rattle.occ_forms_expressions.proofs.Many.{Kept}
use Rattle.std.proofs.Common.{length}
use Rattle.occ_forms_expressions.proofs.list.more_items.Given as goal

abbrev pub invariant-loop-begun : goal.invariant-loop-begun
invariant-loop-begun g l = Kept next_item_of IsEndOfItems l.tokens l.found l.rest

abbrev pub decreases-loop-begun : goal.decreases-loop-begun
decreases-loop-begun g l = length l.rest
