-- What is found is what a read gives.
use Rattle.std.proofs.Common.{inl, inr, ℕ, List, [], ◌∷◌, Option, None, Some, subst, sym}
use Rattle.occ_files.specs.Paths.{Gives, IsFirst, Known}

abbrev pub IsGiven : Known → Option (List ℕ × List ℕ) → Type 0
IsGiven known None = Unit {0}
IsGiven known (Some found) = Gives known found.0 (Some found.1)

pub first_given : (known : Known) (folders : List (List ℕ)) (name : List ℕ) (found : Option (List ℕ × List ℕ)) → IsFirst known folders name found → IsGiven known found
first_given known [] name found none = subst (IsGiven known) (sym none) tt
first_given known (f ∷ fs) name found is = elim is [
  | inl here ↦ subst (IsGiven known) (sym here.2) here.1
  | inr later ↦ first_given known fs name found later.1
]
