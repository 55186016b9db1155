use Rattle.occ_forms_expressions.proofs.Dimensions.{base_ends}
use Rattle.occ_forms_expressions.proofs.types.data_form.Goals as goal

pub returns-in_default-2-clause-only : goal.returns-in_default-2-clause-only
returns-in_default-2-clause-only g c form k e = let h = rw c.in-Some.is at c.in_ok-dimensions.ensures.only form.dimensions _ (base_ends form.base k) e in
    rw c.in_default-2.is at c.in_ok-base.ensures.only form.base k h.1
