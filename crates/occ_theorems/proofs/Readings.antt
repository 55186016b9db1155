-- Two readings of the same tokens are one: expressions, by induction on the number of tokens.
use Rattle.std.proofs.Common.{◌≡◌, List}
use Rattle.occ_lines.specs.declared.token.Token.{Token}
use Rattle.occ_forms_expressions.specs.declared.tree.Builtin.{Builtin}
use Rattle.occ_forms_expressions.specs.Reading.{IsNotCounted}
use Rattle.occ_forms_expressions.specs.Spelling.{builtin_then}
use Rattle.occ_forms_expressions.proofs.UniqueTypes.{one_builtin_below}
use Rattle.occ_forms_expressions.proofs.UniqueExprs.{always}

pub one_builtin : (a b : Builtin) (j k : List Token) → IsNotCounted j → IsNotCounted k → builtin_then a j ≡ builtin_then b k → (a ≡ b) × (j ≡ k)
one_builtin = always builtin_then IsNotCounted one_builtin_below
