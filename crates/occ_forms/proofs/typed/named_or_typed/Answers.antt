use Rattle.occ_forms.proofs.Results.{named_is_no_function}
use Rattle.occ_forms.proofs.Types.{named_is_untyped}
use Rattle.occ_forms.proofs.typed.named_or_typed.Goals as goal

pub returns-in_default-2-clause-bound : goal.returns-in_default-2-clause-bound
returns-in_default-2-clause-bound c b form n el is = absurd (named_is_untyped _ _ _ (rw c.in-Some.is at c.in_ok-name.ensures) form n _ is)

pub returns-in_default-2-clause-declared : goal.returns-in_default-2-clause-declared
returns-in_default-2-clause-declared c form n ns is = absurd (named_is_untyped _ _ _ (rw c.in-Some.is at c.in_ok-name.ensures) form n _ is)

pub returns-in_default-2-clause-head : goal.returns-in_default-2-clause-head
returns-in_default-2-clause-head c head is = absurd (named_is_no_function _ _ _ (rw c.in-Some.is at c.in_ok-name.ensures) head _ is)

pub returns-in_default-2-clause-line : goal.returns-in_default-2-clause-line
returns-in_default-2-clause-line c head e more is = absurd (named_is_no_function _ _ _ (rw c.in-Some.is at c.in_ok-name.ensures) head _ is)

pub returns-clause-bound : goal.returns-clause-bound
returns-clause-bound c b form n el is = absurd (named_is_untyped _ _ _ (rw c.in-Some.is at c.in_ok-name.ensures) form n _ is)

pub returns-clause-declared : goal.returns-clause-declared
returns-clause-declared c form n ns is = absurd (named_is_untyped _ _ _ (rw c.in-Some.is at c.in_ok-name.ensures) form n _ is)

pub returns-clause-head : goal.returns-clause-head
returns-clause-head c head is = absurd (named_is_no_function _ _ _ (rw c.in-Some.is at c.in_ok-name.ensures) head _ is)

pub returns-clause-line : goal.returns-clause-line
returns-clause-line c head e more is = absurd (named_is_no_function _ _ _ (rw c.in-Some.is at c.in_ok-name.ensures) head _ is)
