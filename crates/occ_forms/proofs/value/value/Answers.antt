use Rattle.occ_forms_expressions.proofs.Lists.{after_same}
use Rattle.occ_forms.proofs.Types.{named_is_untyped}
use Rattle.occ_forms.proofs.value.value.Goals as goal

pub returns-in_default-3-clause-typed : goal.returns-in_default-3-clause-typed
returns-in_default-3-clause-typed c b form n e is = absurd (named_is_untyped _ _ _ (rw c.in-Some-2.is at c.in_ok-name.ensures) form n _ (after_same _ _ _ _ c.in-Some.ensures is))

pub returns-in-Some-2-clause-typed : goal.returns-in-Some-2-clause-typed
returns-in-Some-2-clause-typed c b form n e is = absurd (named_is_untyped _ _ _ (rw c.in-Some-2.is at c.in_ok-name.ensures) form n _ (after_same _ _ _ _ c.in-Some.ensures is))
