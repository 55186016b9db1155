-- Lists that are compared item by item, or as sets.
use Rattle.std.proofs.Common.{◌≡◌, ◌<◌, ◌≤◌, ◌+◌, ℕ, zero, suc, List, [], ◌∷◌, ◌++◌, length, take, get_or, inl, inr, refl, sym, ap, ◌∙◌, subst, arith}
use Rattle.std.specs.Prelude.{IsTrue, ◌↔◌, Bool, true, false}
use Rattle.std.specs.List.{AllZip, Contains}
use Rattle.std.proofs.lemmas.Grind.{take_at_read}
use Rattle.std.proofs.lemmas.List.{take_all}
use Rattle.std.proofs.lemmas.List.Elements.{AllZip-push, Contains-append_cases}
use Rattle.occ_types.specs.Interface.{IsWithin, IsSameSet}

-- one more item at a place
pub take_more : {X : Type 0} (xs : List X) (i : ℕ) (d : X) → i < length xs → take (i + 1) xs ≡ take i xs ++ get_or xs i d ∷ []
take_more xs i d h = (take_at_read xs i d h).1

pub zip_more : {X : Type 0} (R : X → X → Type 0) (xs ys : List X) (i : ℕ) (x y : X) → i < length xs → length xs ≡ length ys → x ≡ get_or xs i x → y ≡ get_or ys i y → AllZip R (take i xs) (take i ys) → R x y → AllZip R (take (i + 1) xs) (take (i + 1) ys)
zip_more {X} R xs ys i x y h is at_x at_y all r =
    let h' : i < length ys = omega arith in
    let more_xs : take (i + 1) xs ≡ take i xs ++ x ∷ [] = take_more xs i x h ∙ ap (λ (z : X). take i xs ++ z ∷ []) (sym at_x) in
    let more_ys : take (i + 1) ys ≡ take i ys ++ y ∷ [] = take_more ys i y h' ∙ ap (λ (z : X). take i ys ++ z ∷ []) (sym at_y) in
    subst (λ (zs : List X). AllZip R zs (take (i + 1) ys)) (sym more_xs)
    (subst (λ (zs : List X). AllZip R (take i xs ++ x ∷ []) zs) (sym more_ys) (AllZip-push R (take i xs) (take i ys) x y all r))

-- lists are equal exactly where their items are, one by one
pub zip_equal : {X : Type 0} (xs ys : List X) → AllZip (λ (a b : X). a ≡ b) xs ys → xs ≡ ys
zip_equal [] [] h = refl
zip_equal [] (y ∷ ys) h = absurd h
zip_equal (x ∷ xs) [] h = absurd h
zip_equal {X} (x ∷ xs) (y ∷ ys) h = ap (λ (z : X). z ∷ xs) h.0 ∙ ap (λ (zs : List X). y ∷ zs) (zip_equal xs ys h.1)

zip_itself : {X : Type 0} (xs : List X) → AllZip (λ (a b : X). a ≡ b) xs xs
zip_itself [] = tt
zip_itself (x ∷ xs) = (refl, zip_itself xs)

pub equal_zip : {X : Type 0} (xs ys : List X) → xs ≡ ys → AllZip (λ (a b : X). a ≡ b) xs ys
equal_zip {X} xs ys e = subst (λ (zs : List X). AllZip (λ (a b : X). a ≡ b) xs zs) e (zip_itself xs)

one_item : {X : Type 0} (y x : X) → Contains (y ∷ []) x → y ≡ x
one_item y x (zero, h, e) = e
one_item y x (suc k, h, e) = absurd (omega arith)

-- lists of which each item of the one is one of the other's
pub within_more : {X : Type 0} (xs ys : List X) (i : ℕ) (d : X) → i < length xs → IsWithin (take i xs) ys → Contains ys (get_or xs i d) → IsWithin (take (i + 1) xs) ys
within_more {X} xs ys i d h all one x at =
    elim (Contains-append_cases (take i xs) (get_or xs i d ∷ []) x (subst (λ (zs : List X). Contains zs x) (take_more xs i d h) at)) [
      | inl before ↦ all x before
      | inr here ↦ subst (λ (y : X). Contains ys y) (one_item (get_or xs i d) x here) one
    ]

pub within_end : {X : Type 0} (xs ys : List X) (i : ℕ) → length xs ≤ i → IsWithin (take i xs) ys → IsTrue true ↔ IsWithin xs ys
within_end {X} xs ys i h all = (λ _. subst (λ (zs : List X). IsWithin zs ys) (take_all i xs h) all, λ _. refl)

pub within_not : {X : Type 0} (b : Bool) (xs ys : List X) (i : ℕ) (x : X) → i < length xs → x ≡ get_or xs i x → b ≡ false → (IsTrue b ↔ Contains ys x) → IsTrue false ↔ IsWithin xs ys
within_not b xs ys i x h at is_false (reported, reports) = (λ e. absurd cc, λ all. sym is_false ∙ reports (all x (i, h, sym at)))

-- a test of items, one by one, says whether the lists are equal
pub reports_equal : {X : Type 0} (b : Bool) (xs ys : List X) → (IsTrue b ↔ AllZip (λ (x y : X). x ≡ y) xs ys) → IsTrue b ↔ (xs ≡ ys)
reports_equal b xs ys (there, back) = (λ h. zip_equal xs ys (there h), λ h. back (equal_zip xs ys h))

-- where the one list is within the other, the way back says whether they are the same set
pub reports_same_set : {X : Type 0} (b : Bool) (xs ys : List X) → IsWithin xs ys → (IsTrue b ↔ IsWithin ys xs) → IsTrue b ↔ IsSameSet xs ys
reports_same_set b xs ys there (reported, reports) = (λ h. record { there = there; back = reported h }, λ same. reports same.back)

pub reports_no_set : {X : Type 0} (b : Bool) (xs ys : List X) → b ≡ false → (IsTrue b ↔ IsWithin xs ys) → IsTrue b ↔ IsSameSet xs ys
reports_no_set b xs ys is_false (reported, reports) = (λ h. absurd cc, λ same. reports same.there)
