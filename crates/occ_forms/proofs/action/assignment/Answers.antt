use Rattle.std.proofs.Common.{List, [], refl}
use Rattle.occ_lines.specs.declared.token.Symbol.TheVariants as s
use Rattle.occ_lines.specs.declared.token.Token.{Token}
use Rattle.occ_forms_expressions.specs.Spelling.{expr_then}
use Rattle.occ_forms_expressions.proofs.Lists.{after_same}
use Rattle.occ_forms.specs.SpecificationSpelling.{listed}
use Rattle.occ_forms.proofs.Lists.{assign_ends, no_comma, no_more}
use Rattle.occ_forms.proofs.action.assignment.Goals as goal

pub returns-in_default-clause-only : goal.returns-in_default-clause-only
returns-in_default-clause-only c el els x xs e = let values : List Token = listed s.Comma expr_then x xs [] in
    absurd (rw c.in_default.is at c.in_ok-target.ensures.only el els _ (assign_ends values) (no_comma values) e)

pub returns-in_default-2-clause-only : goal.returns-in_default-2-clause-only
returns-in_default-2-clause-only c el els x xs e = let values : List Token = listed s.Comma expr_then x xs [] in
    let h = rw c.in-Some.is at c.in_ok-target.ensures.only el els _ (assign_ends values) (no_comma values) e in
    absurd (rw c.in_default-2.is at c.in_ok-value.ensures.only x xs [] refl (no_more s.Comma) (after_same _ _ _ _ c.in-Some-after.ensures h.2))
