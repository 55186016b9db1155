-- Names that are compared place by place.
use Rattle.std.proofs.Common.{◌≡◌, ◌∙◌, ◌++◌, ◌+◌, ◌<◌, ℕ, Bool, true, not, List, [], ◌∷◌, length, map, take, get_or, ap, sym, refl, false}
use Rattle.std.proofs.lemmas.List.{get_or-map, map-append, take_more}
use Rattle.std.proofs.lemmas.Slice.Eq.{bytes_eq-Decides}
use Rattle.std.specs.Str.{bytes_eq}

-- a test that says that the two names are one, and one that says that they are not
is_one : (a b : List ℕ) (test : Bool) → test ≡ not (bytes_eq a b) → not test ≡ true → a ≡ b
is_one a b test e t = (bytes_eq-Decides a b).0 (by_cases (bytes_eq a b) test e t) where
  by_cases : (r test : Bool) → test ≡ not r → not test ≡ true → r ≡ true
  by_cases true test e t = refl
  by_cases false true e t = t
  by_cases false false e t = e

are_two : (a b : List ℕ) (test : Bool) → test ≡ not (bytes_eq a b) → test ≡ true → a ≡ b → ⊥
are_two a b test e t same = by_cases (bytes_eq a b) ((bytes_eq-Decides a b).1 same) test e t where
  by_cases : (r : Bool) → r ≡ true → (test : Bool) → test ≡ not r → test ≡ true → ⊥
  by_cases true h true e t = cc
  by_cases true h false e t = cc
  by_cases false h test e t = cc

pub one_more : {X : Type 0} (f : X → List ℕ) (xs : List X) (ys : List (List ℕ)) (i : ℕ) (x : X) (y : List ℕ) (test : Bool) → i < length xs → i < length ys → y ≡ get_or ys i y
    → test ≡ not (bytes_eq (f (get_or xs i x)) y) → not test ≡ true → map f (take i xs) ≡ take i ys → map f (take (i + 1) xs) ≡ take (i + 1) ys
one_more {X} f xs ys i x y test h k ey e t same =
    ap (map f) (take_more xs i x h)
    ∙ map-append f (take i xs) (get_or xs i x ∷ [])
    ∙ ap (λ (zs : List (List ℕ)). zs ++ f (get_or xs i x) ∷ []) same
    ∙ ap (λ (z : List ℕ). take i ys ++ z ∷ []) (is_one (f (get_or xs i x)) y test e t ∙ ey)
    ∙ sym (take_more ys i y k)

pub other_there : {X : Type 0} (f : X → List ℕ) (xs : List X) (ys : List (List ℕ)) (i : ℕ) (x : X) (y : List ℕ) (test : Bool) → i < length xs → y ≡ get_or ys i y
    → test ≡ not (bytes_eq (f (get_or xs i x)) y) → test ≡ true → map f xs ≡ ys → ⊥
other_there f xs ys i x y test h ey e t same = are_two (f (get_or xs i x)) y test e t (sym (get_or-map f xs i x y h) ∙ ap (λ (zs : List (List ℕ)). get_or zs i y) same ∙ sym ey)
