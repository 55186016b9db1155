-- The last place of a name is where it stands and nowhere later.
use Rattle.std.proofs.Common.{◌≡◌, ◌+◌, ◌<◌, ℕ, zero, suc, List, [], ◌∷◌, Bool, true, false, cond, Option, Some, None, refl, ap, sym, ◌∙◌, subst, arith}
use Rattle.std.specs.Prelude.{◌↔◌, ◌≢◌}
use Rattle.std.specs.List.{slice_get}
use Rattle.std.specs.Ordering.{nat_cmp}
use Rattle.std.specs.Cmp.Lexicographic.{slice_cmp}
use Rattle.std.proofs.lemmas.Map.Lookups.{exact_bytes}
use Rattle.occ_scope.specs.Nearest.{nearest, last_place_from, later_or, is_same_name, IsNearest}
use Rattle.occ_scope.proofs.Stacked.{equal, same_itself}

one_name : (x q : List ℕ) → is_same_name x q ≡ true → x ≡ q
one_name x q h = exact_bytes x q (equal (slice_cmp nat_cmp x q) h)

other_name : (b : Bool) (x q : List ℕ) → is_same_name x q ≡ b → Some x ≢ Some q → b ≡ false
other_name true x q h differ = absurd (differ (ap Some (one_name x q h)))
other_name false x q h differ = refl

-- nowhere
none_from : (k : ℕ) (xs : List (List ℕ)) (q : List ℕ) → ((j : ℕ) → slice_get xs j ≢ Some q) → last_place_from k xs q ≡ None
none_from k [] q h = refl
none_from k (x ∷ xs) q h =
    let later : last_place_from (k + 1) xs q ≡ None = none_from (k + 1) xs q (λ j. h (suc j)) in
    let here : is_same_name x q ≡ false = other_name (is_same_name x q) x q refl (h 0) in
    ap (λ (r : Option ℕ). later_or r (cond (is_same_name x q) (Some k) None)) later ∙ ap (λ (b : Bool). cond b (Some k) None) here

later_none : (a b : Option ℕ) → later_or a b ≡ None → (a ≡ None) × (b ≡ None)
later_none None b h = (refl, h)
later_none (Some a) b h = absurd cc

from_none : (k : ℕ) (xs : List (List ℕ)) (q : List ℕ) → last_place_from k xs q ≡ None → (j : ℕ) → slice_get xs j ≢ Some q
from_none k [] q h j e = absurd cc
from_none k (x ∷ xs) q h zero e =
    let parts : (last_place_from (k + 1) xs q ≡ None) × (cond (is_same_name x q) (Some k) None ≡ None) = later_none _ _ h in
    let at : x ≡ q = cc in
    let same : is_same_name x q ≡ true = subst (λ (y : List ℕ). is_same_name x y ≡ true) at (same_itself x) in
    let some : Some k ≡ None = sym (ap (λ (b : Bool). cond b (Some k) None) same) ∙ parts.1 in
    absurd cc
from_none k (x ∷ xs) q h (suc j) e = from_none (k + 1) xs q ((later_none (last_place_from (k + 1) xs q) (cond (is_same_name x q) (Some k) None) h).0) j e

-- at one place, and nowhere later
from_nearest : (k : ℕ) (xs : List (List ℕ)) (q : List ℕ) (j : ℕ) → IsNearest xs q j → last_place_from k xs q ≡ Some (k + j)
from_nearest k [] q j is = let e : None ≡ Some q = is.here in absurd cc
from_nearest k (x ∷ xs) q zero is =
    let later : last_place_from (k + 1) xs q ≡ None = none_from (k + 1) xs q (λ j. is.last (suc j) (omega arith)) in
    let here : Some x ≡ Some q = is.here in
    let at : x ≡ q = cc in
    let same : is_same_name x q ≡ true = subst (λ (y : List ℕ). is_same_name x y ≡ true) at (same_itself x) in
    ap (λ (r : Option ℕ). later_or r (cond (is_same_name x q) (Some k) None)) later ∙ ap (λ (b : Bool). cond b (Some k) None) same ∙ ap Some (omega arith)
from_nearest k (x ∷ xs) q (suc j) is =
    let there : IsNearest xs q j = record { here = is.here; last = λ l h. is.last (suc l) (omega arith) } in
    ap (λ (r : Option ℕ). later_or r (cond (is_same_name x q) (Some k) None)) (from_nearest (k + 1) xs q j there) ∙ ap Some (omega arith)

abbrev Found : ℕ → List (List ℕ) → List ℕ → ℕ → Type 0
Found k xs q p = (j : ℕ) × (p ≡ k + j) × IsNearest xs q j

following : (k : ℕ) (x : List ℕ) (xs : List (List ℕ)) (q : List ℕ) → last_place_from (k + 1) xs q ≡ None → (l : ℕ) → 0 < l → slice_get (x ∷ xs) l ≢ Some q
following k x xs q later zero h e = absurd (omega arith)
following k x xs q later (suc l) h e = from_none (k + 1) xs q later l e

here_found : (b : Bool) (k : ℕ) (x : List ℕ) (xs : List (List ℕ)) (q : List ℕ) (p : ℕ) → is_same_name x q ≡ b → last_place_from (k + 1) xs q ≡ None → cond b (Some k) None ≡ Some p → Found k (x ∷ xs) q p
here_found false k x xs q p same later e = absurd cc
here_found true k x xs q p same later e =
    let at : p ≡ k = cc in
    (0, at ∙ (omega arith), record { here = ap Some (one_name x q same); last = following k x xs q later })

deeper : (x : List ℕ) (xs : List (List ℕ)) (q : List ℕ) (j : ℕ) → IsNearest xs q j → (l : ℕ) → suc j < l → slice_get (x ∷ xs) l ≢ Some q
deeper x xs q j is zero h e = absurd (omega arith)
deeper x xs q j is (suc l) h e = is.last l (omega arith) e

by_later : (r : Option ℕ) (k : ℕ) (x : List ℕ) (xs : List (List ℕ)) (q : List ℕ) (p : ℕ) → last_place_from (k + 1) xs q ≡ r → later_or r (cond (is_same_name x q) (Some k) None) ≡ Some p → ((n : ℕ) → last_place_from (k + 1) xs q ≡ Some n → Found (k + 1) xs q n) → Found k (x ∷ xs) q p
by_later None k x xs q p is h more = here_found (is_same_name x q) k x xs q p refl is h
by_later (Some n) k x xs q p is h more =
    let found : Found (k + 1) xs q p = more p (is ∙ h) in
    (suc found.0, (let e : p ≡ k + 1 + found.0 = found.1 in omega arith), record { here = found.2.here; last = deeper x xs q found.0 found.2 })

nearest_from : (k : ℕ) (xs : List (List ℕ)) (q : List ℕ) (p : ℕ) → last_place_from k xs q ≡ Some p → Found k xs q p
nearest_from k [] q p h = absurd cc
nearest_from k (x ∷ xs) q p h = by_later (last_place_from (k + 1) xs q) k x xs q p refl h (nearest_from (k + 1) xs q)

at_zero : (xs : List (List ℕ)) (q : List ℕ) (p : ℕ) → Found 0 xs q p → IsNearest xs q p
at_zero xs q p found = let e : found.0 ≡ p = (let h : p ≡ 0 + found.0 = found.1 in omega arith) in subst (IsNearest xs q) e found.2

pub nearest_is : (xs : List (List ℕ)) (q : List ℕ) (p : ℕ) → (nearest xs q ≡ Some p) ↔ IsNearest xs q p
nearest_is xs q p = (λ h. at_zero xs q p (nearest_from 0 xs q p h), λ is. from_nearest 0 xs q p is ∙ ap Some (omega arith))

pub nearest_is_none : (xs : List (List ℕ)) (q : List ℕ) → (nearest xs q ≡ None) ↔ ((p : ℕ) → slice_get xs p ≢ Some q)
nearest_is_none xs q = (from_none 0 xs q, none_from 0 xs q)
