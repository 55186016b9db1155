use Rattle.occ_forms.proofs.Results.{head_from_first, line_from_first, no_first, no_function}
use Rattle.occ_forms.proofs.typed.typed.Goals as goal

pub returns-in_default-clause-head : goal.returns-in_default-clause-head
returns-in_default-clause-head c head is = absurd (no_first _ (rw c.in_default.is at c.in_ok-form.ensures.only) head _ is)

pub returns-in_default-clause-line : goal.returns-in_default-clause-line
returns-in_default-clause-line c head e more is = absurd (no_first _ (rw c.in_default.is at c.in_ok-form.ensures.only) head _ is)

pub returns-in_default-2-clause-head : goal.returns-in_default-2-clause-head
returns-in_default-2-clause-head c = head_from_first _ _ _ _ (rw c.in-Some.is at c.in_ok-form.ensures.only) c.function.ensures.head

pub returns-in_default-2-clause-line : goal.returns-in_default-2-clause-line
returns-in_default-2-clause-line c = line_from_first _ _ _ _ (rw c.in-Some.is at c.in_ok-form.ensures.only) c.function.ensures.line

pub returns-in_default-3-clause-head : goal.returns-in_default-3-clause-head
returns-in_default-3-clause-head c head is = absurd (no_function _ _ _ _ _ (rw c.in-Some.is at c.in_ok-form.ensures.only) (rw c.in-Some-2.is at c.in_ok-name.ensures) head _ is)

pub returns-in_default-3-clause-line : goal.returns-in_default-3-clause-line
returns-in_default-3-clause-line c head e more is = absurd (no_function _ _ _ _ _ (rw c.in-Some.is at c.in_ok-form.ensures.only) (rw c.in-Some-2.is at c.in_ok-name.ensures) head _ is)

pub returns-clause-head : goal.returns-clause-head
returns-clause-head c head is = absurd (no_function _ _ _ _ _ (rw c.in-Some.is at c.in_ok-form.ensures.only) (rw c.in-Some-2.is at c.in_ok-name.ensures) head _ is)

pub returns-clause-line : goal.returns-clause-line
returns-clause-line c head e more is = absurd (no_function _ _ _ _ _ (rw c.in-Some.is at c.in_ok-form.ensures.only) (rw c.in-Some-2.is at c.in_ok-name.ensures) head _ is)
