use Rattle.std.proofs.Common.{◌≡◌, drop}
use Rattle.occ_forms_expressions.specs.Marks.{first_mark}
use Rattle.occ_forms_expressions.proofs.inner_token.mark.Given as goal

abbrev pub invariant-loop-token : goal.invariant-loop-token
invariant-loop-token l = first_mark (drop l.token-index l.tokens) ≡ first_mark l.tokens
