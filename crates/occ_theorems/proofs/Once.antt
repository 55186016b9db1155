-- Uses, each once, from the last to the first.
use Rattle.std.proofs.Common.{◌≡◌, ℕ, zero, suc, Bool, true, false, ap, refl, ◌∙◌, sym, subst, List, [], ◌∷◌, ◌++◌, Some, length, slice_get, inl, inr}
use Rattle.std.specs.Prelude.{◌↔◌, ◌⊎◌, if◌then◌else◌}
use Rattle.occ_usage_values.specs.declared.uses.Use.{Use}
use Rattle.occ_usage_conflicts.specs.Distinct.{added, distinct, gathered, is_among, same_use}
use Rattle.occ_usage_values.specs.Uses.{at_line}
use Rattle.occ_project.specs.declared.expanded.Location.{Location}
use Rattle.occ_theorems.proofs.Members.{Among}
use Rattle.occ_usage_conflicts.specs.ParallelRule.{StandsIn}
use Rattle.occ_usage_conflicts.proofs.Clashing.{any_found, any_given}
use Rattle.occ_usage_conflicts.proofs.Equality.{same_exactly}
use Rattle.occ_usage_conflicts.proofs.Once.{get_push}

-- ---- places in a list

pub get_front : {X : Type 0} (xs ys : List X) (x : X) (j : ℕ) → slice_get xs j ≡ Some x → slice_get (xs ++ ys) j ≡ Some x
get_front [] ys x j h = cc
get_front (z ∷ xs) ys x zero h = h
get_front (z ∷ xs) ys x (suc j) h = get_front xs ys x j h

pub get_last : {X : Type 0} (xs : List X) (y : X) → slice_get (xs ++ y ∷ []) (length xs) ≡ Some y
get_last [] y = refl
get_last (z ∷ xs) y = get_last xs y

-- no two places have the same
abbrev Once : {X : Type 0} → List X → Type 0
Once {X} xs = (j k : ℕ) (x : X) → slice_get xs j ≡ Some x → slice_get xs k ≡ Some x → j ≡ k

once_push : {X : Type 0} (xs : List X) (y : X) → Once xs → (StandsIn y xs → ⊥) → Once (xs ++ y ∷ [])
once_push xs y once new j k x a b = elim (get_push xs y x j a) [
  | inl p ↦ elim (get_push xs y x k b) [
    | inl q ↦ once j k x p q
    | inr q ↦ absurd (new (j, p ∙ ap Some (q.1)))
  ]
  | inr p ↦ elim (get_push xs y x k b) [
    | inl q ↦ absurd (new (k, q ∙ ap Some (p.1)))
    | inr q ↦ p.0 ∙ sym (q.0)
  ]
]

-- ---- one more

own : (u : Use) → same_use u u ≡ true
own u = (same_exactly u u).1 refl

not_among : (found : List Use) (u : Use) → is_among found u ≡ false → StandsIn u found → ⊥
not_among found u h (k, at) = let e : is_among found u ≡ true = any_given (λ (x : Use). same_use x u) found u k at (own u) in cc

among : (found : List Use) (u : Use) → is_among found u ≡ true → StandsIn u found
among found u h =
    let m = any_found (λ (x : Use). same_use x u) found h in
    (m.1.0, m.1.1 ∙ ap Some ((same_exactly (m.0) u).0 (m.2)))

from_added : (t : Bool) (u x : Use) (found : List Use) → StandsIn x (if t then found else found ++ u ∷ []) → (x ≡ u) ⊎ StandsIn x found
from_added true u x found h = inr h
from_added false u x found (k, at) = elim (get_push found u x k at) [
  | inl e ↦ inr (k, e)
  | inr m ↦ inl (m.1)
]

last_added : (t : Bool) (u : Use) (found : List Use) → is_among found u ≡ t → StandsIn u (if t then found else found ++ u ∷ [])
last_added true u found e = among found u e
last_added false u found e = (length found, get_last found u)

still_added : (t : Bool) (u x : Use) (found : List Use) → StandsIn x found → StandsIn x (if t then found else found ++ u ∷ [])
still_added true u x found h = h
still_added false u x found (k, at) = (k, get_front found (u ∷ []) x k at)

once_added : (t : Bool) (u : Use) (found : List Use) → is_among found u ≡ t → Once found → Once (if t then found else found ++ u ∷ [])
once_added true u found e once = once
once_added false u found e once = once_push found u once (not_among found u e)

-- ---- all

from_distinct : (us : List Use) (x : Use) → StandsIn x (distinct us) → StandsIn x us
from_distinct [] x h = h
from_distinct (u ∷ us) x h = elim (from_added (is_among (distinct us) u) u x (distinct us) h) [
  | inl e ↦ (0, ap Some (sym e))
  | inr m ↦ let rest = from_distinct us x m in (suc (rest.0), rest.1)
]

into_distinct : (us : List Use) (x : Use) (k : ℕ) → slice_get us k ≡ Some x → StandsIn x (distinct us)
into_distinct [] x k at = cc
into_distinct (u ∷ us) x zero at =
    let same : u ≡ x = cc in
    subst (λ (y : Use). StandsIn y (added u (distinct us))) same (last_added (is_among (distinct us) u) u (distinct us) refl)
into_distinct (u ∷ us) x (suc k) at = still_added (is_among (distinct us) u) u x (distinct us) (into_distinct us x k at)

pub among_law : (us : List Use) (u : Use) → StandsIn u (distinct us) ↔ StandsIn u us
among_law us u = (from_distinct us u, λ (k, at). into_distinct us u k at)

pub once_law : (us : List Use) (j k : ℕ) (u : Use) → slice_get (distinct us) j ≡ Some u → slice_get (distinct us) k ≡ Some u → j ≡ k
once_law [] j k u a b = cc
once_law (x ∷ us) j k u a b = once_added (is_among (distinct us) x) x (distinct us) refl (once_law us) j k u a b

-- ---- the same of members

stands : (us : List Use) (u : Use) → Among u us → StandsIn u us
stands [] u h = absurd h
stands (x ∷ us) u (inl e) = (0, ap Some e)
stands (x ∷ us) u (inr h) = let r = stands us u h in (suc r.0, r.1)

among_all : (us : List Use) (u : Use) (k : ℕ) → slice_get us k ≡ Some u → Among u us
among_all [] u k h = absurd cc
among_all (x ∷ us) u zero h = inl (let e : x ≡ u = cc in e)
among_all (x ∷ us) u (suc k) h = inr (among_all us u k h)

pub added_from : (u x : Use) (found : List Use) → Among x (added u found) → (u ≡ x) ⊎ Among x found
added_from u x found h = elim (from_added (is_among found u) u x found (stands (added u found) x h)) [
  | inl e ↦ inl (sym e)
  | inr k ↦ inr (among_all found x k.0 k.1)
]

pub added_new : (u : Use) (found : List Use) → Among u (added u found)
added_new u found = let r = last_added (is_among found u) u found refl in among_all (added u found) u r.0 r.1

pub added_old : (u x : Use) (found : List Use) → Among x found → Among x (added u found)
added_old u x found h = let r = still_added (is_among found u) u x found (stands found x h) in among_all (added u found) x r.0 r.1

-- ---- uses of one line

-- it is told of one of these
pub record IsTold (r : Bool) (place : Location) (us : List Use) (w : Use) : Type 0 where
  pub u : Use
  pub among : Among u us
  pub is : (if r then at_line u place else u) ≡ w

still_told : (place : Location) (us found : List Use) (w : Use) → Among w found → Among w (gathered place found us)
still_told place [] found w h = h
still_told place (u ∷ us) found w h = still_told place us (added (at_line u place) found) w (added_old (at_line u place) w found h)

pub told_from : (place : Location) (us found : List Use) (w : Use) → Among w (gathered place found us) → Among w found ⊎ IsTold true place us w
told_from place [] found w h = inl h
told_from place (u ∷ us) found w h = elim (told_from place us (added (at_line u place) found) w h) [
  | inl k ↦ elim (added_from (at_line u place) w found k) [
    | inl e ↦ inr (record { u = u; among = inl refl; is = e })
    | inr j ↦ inl j
  ]
  | inr k ↦ inr (record { u = k.u; among = inr k.among; is = k.is })
]

pub told_into : (place : Location) (us found : List Use) (u : Use) → Among u us → Among (at_line u place) (gathered place found us)
told_into place [] found u h = absurd h
told_into place (x ∷ us) found u (inl e) =
    still_told place us (added (at_line x place) found) (at_line u place)
    (subst (λ (y : Use). Among (at_line y place) (added (at_line x place) found)) e (added_new (at_line x place) found))
told_into place (x ∷ us) found u (inr h) = told_into place us (added (at_line x place) found) u h

gathered_once : (line : Location) (us found : List Use) → Once found → Once (gathered line found us)
gathered_once line [] found once = once
gathered_once line (u ∷ us) found once = gathered_once line us (added (at_line u line) found) (once_added (is_among found (at_line u line)) (at_line u line) found refl once)

pub gathered_law : (line : Location) (us : List Use) (w : Use) → StandsIn w (gathered line [] us) ↔ ((u : Use) × StandsIn u us × (at_line u line ≡ w))
gathered_law line us w = (
  λ h. elim (told_from line us [] w (among_all (gathered line [] us) w h.0 h.1)) [ inl k ↦ absurd k | inr k ↦ (k.u, stands us k.u k.among, k.is) ],
  λ h. stands (gathered line [] us) w (subst (λ (z : Use). Among z (gathered line [] us)) h.2 (told_into line us [] h.0 (among_all us h.0 h.1.0 h.1.1))),
)

pub told_once : (line : Location) (us : List Use) (j k : ℕ) (u : Use) → slice_get (gathered line [] us) j ≡ Some u → slice_get (gathered line [] us) k ≡ Some u → j ≡ k
told_once line us j k u a b = gathered_once line us [] (λ m n x c d. absurd (let e : slice_get [] m ≡ Some x = c in cc)) j k u a b
