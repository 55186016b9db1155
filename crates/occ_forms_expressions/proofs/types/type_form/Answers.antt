use Rattle.occ_forms_expressions.proofs.Dimensions.{no_type, type_only}
use Rattle.occ_forms_expressions.proofs.types.type_form.Goals as goal

pub returns-in_default-clause-only : goal.returns-in_default-clause-only
returns-in_default-clause-only g c = no_type _ _ (rw c.in_default.is at c.in_ok-dimensions.ensures.only)

pub returns-clause-only : goal.returns-clause-only
returns-clause-only g c = type_only _ _ _ _ _ (rw c.in-Some.is at c.in_ok-dimensions.ensures.only) c.type_after.ensures.named c.type_after.ensures.builtin
