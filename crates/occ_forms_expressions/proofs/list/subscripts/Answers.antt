use Rattle.occ_lines.specs.declared.token.Symbol.TheVariants as s
use Rattle.occ_forms_expressions.specs.Reading.{IsNot}
use Rattle.occ_forms_expressions.specs.Spelling.{subscript_of}
use Rattle.occ_forms_expressions.proofs.Lists.{Anything, anything_within, following, after_same, shorter_after}
use Rattle.occ_forms_expressions.proofs.Many.{fails, goes_on, is_done}
use Rattle.occ_forms_expressions.proofs.list.subscripts.Goals as goal

pub returns-in_default-2-clause-only : goal.returns-in_default-2-clause-only
returns-in_default-2-clause-only g c = fails subscript_of Anything (IsNot s.OpenIndex) (anything_within subscript_of (IsNot s.OpenIndex)) _ _ _ c.loop-begun.invariant (λ h. h _ c.in-Some.ensures)
    (λ y k ends e. rw c.in_default-2.is at c.in_ok-index.ensures.only y k (after_same _ _ _ _ c.in-Some.ensures e))

pub loop-begun-preserved : goal.loop-begun-preserved
loop-begun-preserved g c = rw c.in_ok-push.ensures.ok (goes_on subscript_of Anything (IsNot s.OpenIndex) (anything_within subscript_of (IsNot s.OpenIndex)) _ _ _ _ _ c.loop-begun.invariant
    (following _ _ _ _ c.in-Some.ensures (rw c.in-Some-2.is at c.in_ok-index.ensures.found))
    (shorter_after _ _ _ _ c.in-Some.ensures (rw c.in-Some-2.is at c.in_ok-index.ensures.shorter)) (λ h. h _ c.in-Some.ensures)
    (λ y k ends e. rw c.in-Some-2.is at c.in_ok-index.ensures.only y k (after_same _ _ _ _ c.in-Some.ensures e)))

pub returns-clause-only : goal.returns-clause-only
returns-clause-only g c = is_done subscript_of Anything (IsNot s.OpenIndex) (anything_within subscript_of (IsNot s.OpenIndex)) _ _ _ c.loop-begun.invariant (λ y k ends e. c.in_default.ensures _ e)
