use Rattle.occ_forms_expressions.proofs.Following.{index_found, none_converted, single_converted, single_index}
use Rattle.occ_forms_expressions.proofs.naming.after_index.Goals as goal

pub returns-then-is_single-clause-found : goal.returns-then-is_single-clause-found
returns-then-is_single-clause-found g c = index_found _ _ _ _ _ (c.is_single.ensures.0 c.if-is_single.true) c.after_subscript.ensures.found

pub returns-then-is_single-clause-element : goal.returns-then-is_single-clause-element
returns-then-is_single-clause-element g c = single_index _ _ _ _ _ (c.is_single.ensures.0 c.if-is_single.true) c.after_subscript.ensures.only

pub returns-then-is_single-clause-converted : goal.returns-then-is_single-clause-converted
returns-then-is_single-clause-converted g c = single_converted _ _ _ _ _ (c.is_single.ensures.0 c.if-is_single.true)

pub returns-in_default-clause-converted : goal.returns-in_default-clause-converted
returns-in_default-clause-converted g c p q operand narrows = none_converted _ _ (rw c.in_default.is at c.in_ok-found.ensures.only p q operand narrows)
