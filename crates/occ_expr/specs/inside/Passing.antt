-- What is known of actuals before their types are compared.
use Rattle.std.specs.Prelude.{ℕ, ◌≡◌, List, Some}
use Rattle.std.specs.List.{slice_get}
use Rattle.occ_scope.specs.Elements.{formal_of}
use Rattle.occ_scope.specs.Visible.{visible}
use Rattle.occ_scope.specs.declared.scope.Scope.{Scope}
use Rattle.occ_types.specs.declared.interface.Formal.{Formal}
use Rattle.occ_types.specs.declared.types.OccType.{OccType}
use Rattle.occ_typing_operands.specs.declared.kind.Kind.TheVariants as k
use Rattle.occ_typing_operands.specs.declared.kind.Known.{Known}
use Rattle.occ_typing_tables.specs.declared.term.Term.{Term}
use Rattle.occ_typing_tables.specs.declared.term.Term.TheVariants as v

-- what a name stands for has these formals
abbrev pub AreFormals : Scope → List ℕ → List Formal → Type 0
AreFormals s name formals = (k : ℕ) (formal : Formal) → slice_get formals k ≡ Some formal → formal_of (visible s name) k ≡ Some formal.of

-- an operand, if it is known, is of this type
abbrev pub IsKnownOf : OccType → Term → Type 0
IsKnownOf of term = (x : Known) → term ≡ v.Single (k.Known x) → x.of ≡ of
