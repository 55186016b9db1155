-- What a call of a function gives.
use Rattle.std.specs.Prelude.{ℕ, ◌≡◌, List, [], ◌∷◌, length, Option, Some}
use Rattle.occ_scope.specs.declared.meaning.Meaning.{Meaning}
use Rattle.occ_scope.specs.declared.meaning.Meaning.TheVariants as m
use Rattle.occ_types.specs.declared.interface.Formal.{Formal}
use Rattle.occ_types.specs.declared.types.OccType.{OccType}
use Rattle.occ_typing_operands.specs.declared.kind.Kind.TheVariants as k
use Rattle.occ_typing_operands.specs.declared.kind.Known.{Known}
use Rattle.occ_typing_tables.specs.declared.term.Term.{Term}
use Rattle.occ_typing_tables.specs.declared.term.Term.TheVariants as v

-- what is meant is a function with so many formals
pub record IsResultPlace (meaning : Option Meaning) (place : ℕ) : Type 0 where
  pub formals : List Formal
  pub results : List OccType
  pub is : meaning ≡ Some (m.Function formals results)
  pub behind : place ≡ length formals

-- one operand, which is known
pub record IsOneKnown (terms : List Term) : Type 0 where
  pub known : Known
  pub is : terms ≡ v.Single (k.Known known) ∷ []
