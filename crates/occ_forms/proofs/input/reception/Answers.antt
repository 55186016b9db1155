use Rattle.occ_forms.proofs.Receptions.{reception_only}
use Rattle.occ_forms.proofs.input.reception.Goals as goal

pub returns-clause-only : goal.returns-clause-only
returns-clause-only c = reception_only _ _ _ _ _ (rw c.in-Some.is at c.in_ok-from.ensures.only) c.in-Some-after.ensures c.after_input.ensures.plain c.after_input.ensures.after c.after_input.ensures.case c.after_input.ensures.tagged
