-- Lists of faults, of which none is there.
use Rattle.std.proofs.Common.{◌≡◌, ℕ, true, List, [], ◌∷◌, ◌++◌, Option, Some, None, refl, arith}
use Rattle.std.specs.Prelude.{◌==◌}

pub front_clean : {X : Type 0} (xs ys : List X) → xs ++ ys ≡ [] → xs ≡ []
front_clean [] ys e = refl
front_clean (x ∷ xs) ys e = absurd cc

pub back_clean : {X : Type 0} (xs ys : List X) → xs ++ ys ≡ [] → ys ≡ []
back_clean [] ys e = e
back_clean (x ∷ xs) ys e = absurd cc

-- it is there
abbrev pub IsThere : {X : Type 0} → Option X → Type 0
IsThere None = ⊥
IsThere (Some x) = Unit {0}

-- it is there, and so is what is asked of it
abbrev pub Has : {X : Type 0} → (X → Type 0) → Option X → Type 0
Has P None = ⊥
Has P (Some x) = P x

pub same_number : (m n : ℕ) → (m == n) ≡ true → m ≡ n
same_number m n e = grind (arith, e)
