-- Lists that have the same number at each index.
use Rattle.std.proofs.Common.{◌≡◌, ◌<◌, ℕ, zero, suc, Bool, true, false, Some, List, [], ◌∷◌, length, slice_get, refl, ap₂, sym, arith}
use Rattle.std.specs.Str.{bytes_eq}
use Rattle.std.proofs.lemmas.Slice.Eq.{bytes_eq-Decides}

at_first : (x y : ℕ) → Some x ≡ Some y → x ≡ y
at_first x y e = cc

pub same_all : (xs ys : List ℕ) → length xs ≡ length ys → ((k : ℕ) → k < length xs → slice_get xs k ≡ slice_get ys k) → xs ≡ ys
same_all [] [] n h = refl
same_all [] (y ∷ ys) n h = absurd (omega (arith, n))
same_all (x ∷ xs) [] n h = absurd (omega (arith, n))
same_all (x ∷ xs) (y ∷ ys) n h =
    ap₂ (λ (z : ℕ) (zs : List ℕ). z ∷ zs) (at_first x y (h zero (omega arith)))
    (same_all xs ys (omega (arith, n)) (λ k w. h (suc k) (omega (arith, w))))

pub are_same : (xs ys : List ℕ) → xs ≡ ys → true ≡ bytes_eq xs ys
are_same xs ys e = sym ((bytes_eq-Decides xs ys).1 e)

-- by a test that tells what it is
pub are_other : (xs ys : List ℕ) → (xs ≡ ys → ⊥) → false ≡ bytes_eq xs ys
are_other xs ys h = by_test (bytes_eq xs ys) refl where
  by_test : (t : Bool) → bytes_eq xs ys ≡ t → false ≡ t
  by_test false e = refl
  by_test true e = absurd (h ((bytes_eq-Decides xs ys).0 e))
