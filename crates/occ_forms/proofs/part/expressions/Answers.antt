use Rattle.std.proofs.Common.{[], refl}
use Rattle.occ_lines.specs.declared.token.Symbol.TheVariants as s
use Rattle.occ_forms.proofs.Lists.{no_more}
use Rattle.occ_forms.proofs.part.expressions.Goals as goal

pub returns-in_default-clause-only : goal.returns-in_default-clause-only
returns-in_default-clause-only c x xs e = absurd (rw c.in_default.is at c.in_ok-first.ensures.only x xs [] refl (no_more s.Comma) e)
