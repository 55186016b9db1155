use Rattle.std.proofs.Common.{[], refl}
use Rattle.occ_lines.specs.declared.token.Symbol.TheVariants as s
use Rattle.occ_forms_expressions.proofs.Lists.{after_same}
use Rattle.occ_forms.proofs.Lists.{no_more}
use Rattle.occ_forms.proofs.part.results.Goals as goal

pub returns-in_default-2-clause-only : goal.returns-in_default-2-clause-only
returns-in_default-2-clause-only c x xs e = absurd (rw c.in_default-2.is at c.in_ok-first.ensures.only x xs [] refl (no_more s.Comma) (after_same _ _ _ _ c.in-Some.ensures e))
