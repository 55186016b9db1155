use Rattle.occ_lines.specs.declared.token.Symbol.TheVariants as s
use Rattle.occ_forms_expressions.specs.Reading.{IsNot}
use Rattle.occ_forms_expressions.specs.Spelling.{dimension_then}
use Rattle.occ_forms_expressions.proofs.Lists.{Anything, anything_within, shorter_after}
use Rattle.occ_forms_expressions.proofs.Dimensions.{no_dimension}
use Rattle.std.proofs.Common.{sym, ◌∙◌}
use Rattle.occ_forms_expressions.proofs.Many.{fails, goes_on, is_done}
use Rattle.occ_forms_expressions.proofs.types.dimensions.Goals as goal

pub returns-in_default-2-clause-only : goal.returns-in_default-2-clause-only
returns-in_default-2-clause-only g c = fails dimension_then Anything (IsNot s.OpenIndex) (anything_within dimension_then (IsNot s.OpenIndex)) _ _ _ c.loop-begun.invariant (λ h. h _ c.in-Some.ensures)
    (λ y k ends e. rw c.in_default-2.is at c.in_ok-one.ensures.only y k (sym c.in-Some.ensures ∙ e))

pub loop-begun-preserved : goal.loop-begun-preserved
loop-begun-preserved g c = rw c.in_ok-push.ensures.ok (goes_on dimension_then Anything (IsNot s.OpenIndex) (anything_within dimension_then (IsNot s.OpenIndex)) _ _ _ _ _ c.loop-begun.invariant
    (c.in-Some.ensures ∙ (rw c.in-Some-2.is at c.in_ok-one.ensures.found))
    (shorter_after _ _ _ _ c.in-Some.ensures (rw c.in-Some-2.is at c.in_ok-one.ensures.shorter)) (λ h. h _ c.in-Some.ensures)
    (λ y k ends e. rw c.in-Some-2.is at c.in_ok-one.ensures.only y k (sym c.in-Some.ensures ∙ e)))

pub returns-clause-only : goal.returns-clause-only
returns-clause-only g c = is_done dimension_then Anything (IsNot s.OpenIndex) (anything_within dimension_then (IsNot s.OpenIndex)) _ _ _ c.loop-begun.invariant (λ y k ends e. no_dimension y k _ c.in_default.ensures e)
