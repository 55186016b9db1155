use Rattle.occ_forms_expressions.proofs.Many.{Kept}
use Rattle.occ_forms.specs.SpecificationSpelling.{next}
use Rattle.occ_forms.proofs.SpecificationLists.{ListEnds}
use Rattle.std.proofs.Common.{length}
use Rattle.occ_forms.proofs.from_tokens.more.Given as goal

abbrev pub invariant-loop-begun : goal.invariant-loop-begun
invariant-loop-begun g l = Kept (next l.separator g.T.FromTokens.spells) (ListEnds l.separator g.T.FromTokens.ends) l.tokens l.found l.rest

abbrev pub decreases-loop-begun : goal.decreases-loop-begun
decreases-loop-begun g l = length l.rest
