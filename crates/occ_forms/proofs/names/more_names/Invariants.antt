use Rattle.std.proofs.Common.{length}
use Rattle.occ_lines.specs.declared.token.Symbol.TheVariants as s
use Rattle.occ_forms_expressions.proofs.Many.{Kept}
use Rattle.occ_forms.specs.SpecificationReading.{IsEndOfNames}
use Rattle.occ_forms.specs.SpecificationSpelling.{name_then, next}
use Rattle.occ_forms.proofs.names.more_names.Given as goal

abbrev pub invariant-loop-found : goal.invariant-loop-found
invariant-loop-found l = Kept (next s.Comma name_then) IsEndOfNames l.tokens l.found l.rest

abbrev pub decreases-loop-found : goal.decreases-loop-found
decreases-loop-found l = length l.rest
