-- Before line 0 stands nothing.
use Rattle.std.proofs.Common.{◌≡◌, ℕ, List, [], ◌∷◌, refl, sym, subst}
use Rattle.occ_editor_edits.specs.Places.{start_of}

start_of_zero : (xs : List ℕ) → start_of 0 xs ≡ 0
start_of_zero [] = refl
start_of_zero (b ∷ bs) = refl

pub start_of_none : (line : ℕ) (xs : List ℕ) → line ≡ 0 → start_of line xs ≡ 0
start_of_none line xs e = let P : ℕ → Type 0 = λ n. start_of n xs ≡ 0 in subst P (sym e) (start_of_zero xs)
