-- What the comparison of selectors says of the elements that are selected.
use Rattle.std.proofs.Common.{◌≡◌, ℕ, Bool, true, false, not, ap, sym, ◌∙◌, refl, arith, List, [], ◌∷◌}
use Rattle.std.specs.Prelude.{ℤ, ◌&&◌, ◌||◌, ◌↔◌}
use Rattle.std.specs.Str.{bytes_eq}
use Rattle.std.proofs.lemmas.Slice.Eq.{bytes_eq-Decides}
use Rattle.occ_types.specs.declared.interface.PartSelector.{PartSelector}
use Rattle.occ_types.specs.declared.interface.PartSelector.TheVariants as s
use Rattle.occ_types.specs.declared.interface.Places.{Places}
use Rattle.occ_usage_parts.specs.Places.{holds, is_none, meet}
use Rattle.occ_usage_parts.specs.Parts.{At, Meet, Step, To, are_apart, differ, has_empty, is_empty, lies, selects, some_differ}
use Rattle.occ_usage_parts.proofs.Sets.{meet_exactly, no_place, some_place}

pub or_left : (a b : Bool) → (a || b) ≡ false → a ≡ false
or_left true b h = cc
or_left false b h = refl

or_right : (a b : Bool) → (a || b) ≡ false → b ≡ false
or_right true b h = cc
or_right false b h = h

pub and_left : (a b : Bool) → (a && b) ≡ true → a ≡ true
and_left true b h = refl
and_left false b h = cc

pub and_right : (a b : Bool) → (a && b) ≡ true → b ≡ true
and_right true b h = h
and_right false b h = cc

not_false : (a : Bool) → not a ≡ false → a ≡ true
not_false true h = refl
not_false false h = cc

same_name : (m n : List ℕ) → bytes_eq m n ≡ true → m ≡ n
same_name m n h = (bytes_eq-Decides m n).0 h

own_name : (m : List ℕ) → bytes_eq m m ≡ true
own_name m = (bytes_eq-Decides m m).1 refl

both_names : (m n l : List ℕ) → bytes_eq m l ≡ true → bytes_eq n l ≡ true → bytes_eq m n ≡ true
both_names m n l h k = (bytes_eq-Decides m n).1 (same_name m l h ∙ sym (same_name n l k))

-- one step that both select
step_of_both : (x y : PartSelector) → differ x y ≡ false → (t : Step) × (selects x t ≡ true) × (selects y t ≡ true)
step_of_both (s.Field m) (s.Field n) h = (To n, not_false (bytes_eq m n) h, own_name n)
step_of_both (s.Field m) (s.Interval j) h = cc
step_of_both (s.Interval i) (s.Field n) h = cc
step_of_both (s.Interval i) (s.Interval j) h =
    let both = (meet_exactly i.places j.places).0 (not_false (meet i.places j.places) h) in
    (At (both.0), both.1, both.2)

both_of_step : (x y : PartSelector) (t : Step) → selects x t ≡ true → selects y t ≡ true → differ x y ≡ false
both_of_step (s.Field m) (s.Field n) (To l) h k = ap not (both_names m n l h k)
both_of_step (s.Field m) (s.Field n) (At z) h k = cc
both_of_step (s.Field m) (s.Interval j) (To l) h k = cc
both_of_step (s.Field m) (s.Interval j) (At z) h k = cc
both_of_step (s.Interval i) (s.Field n) (To l) h k = cc
both_of_step (s.Interval i) (s.Field n) (At z) h k = cc
both_of_step (s.Interval i) (s.Interval j) (To l) h k = cc
both_of_step (s.Interval i) (s.Interval j) (At z) h k =
    let met : meet i.places j.places ≡ true = (meet_exactly i.places j.places).1 (z, h, k) in ap not met

step_of_one : (x : PartSelector) → is_empty x ≡ false → (t : Step) × (selects x t ≡ true)
step_of_one (s.Field m) h = (To m, own_name m)
step_of_one (s.Interval i) h = let found = some_place i.places h in (At (found.0), found.1)

one_of_step : (x : PartSelector) (t : Step) → selects x t ≡ true → is_empty x ≡ false
one_of_step (s.Field m) t h = refl
one_of_step (s.Interval i) (To l) h = cc
one_of_step (s.Interval i) (At z) h = filled (is_none i.places) i.places z refl h where
  filled : (b : Bool) (p : Places) (z : ℤ) → is_none p ≡ b → holds p z ≡ true → b ≡ false
  filled false p z e h = refl
  filled true p z e h = let none : holds p z ≡ false = no_place p z e in cc

-- ---- and selectors after one another

pub steps_of_one : (xs : List PartSelector) → has_empty xs ≡ false → (ts : List Step) × (lies xs ts ≡ true)
steps_of_one [] h = ([], refl)
steps_of_one (x ∷ xs) h =
    let first = step_of_one x (or_left (is_empty x) (has_empty xs) h) in
    let rest = steps_of_one xs (or_right (is_empty x) (has_empty xs) h) in
    let a : selects x (first.0) ≡ true = first.1 in
    let b : lies xs (rest.0) ≡ true = rest.1 in
    (first.0 ∷ rest.0, grind (arith, a, b))

one_of_steps : (xs : List PartSelector) (ts : List Step) → lies xs ts ≡ true → has_empty xs ≡ false
one_of_steps [] ts h = refl
one_of_steps (x ∷ xs) [] h = cc
one_of_steps (x ∷ xs) (t ∷ ts) h =
    let a : is_empty x ≡ false = one_of_step x t (and_left (selects x t) (lies xs ts) h) in
    let b : has_empty xs ≡ false = one_of_steps xs ts (and_right (selects x t) (lies xs ts) h) in
    grind (arith, a, b)

steps_of_both : (xs ys : List PartSelector) → has_empty xs ≡ false → has_empty ys ≡ false → some_differ xs ys ≡ false → Meet xs ys
steps_of_both [] ys h k d = let found = steps_of_one ys k in (found.0, refl, found.1)
steps_of_both (x ∷ xs) [] h k d = let found = steps_of_one (x ∷ xs) h in (found.0, found.1, refl)
steps_of_both (x ∷ xs) (y ∷ ys) h k d =
    let first = step_of_both x y (or_left (differ x y) (some_differ xs ys) d) in
    let rest = steps_of_both xs ys (or_right (is_empty x) (has_empty xs) h) (or_right (is_empty y) (has_empty ys) k) (or_right (differ x y) (some_differ xs ys) d) in
    let a : selects x (first.0) ≡ true = first.1 in
    let b : selects y (first.0) ≡ true = first.2 in
    let c : lies xs (rest.0) ≡ true = rest.1 in
    let e : lies ys (rest.0) ≡ true = rest.2 in
    (first.0 ∷ rest.0, grind (arith, a, c), grind (arith, b, e))

both_of_steps : (xs ys : List PartSelector) (ts : List Step) → lies xs ts ≡ true → lies ys ts ≡ true → some_differ xs ys ≡ false
both_of_steps [] ys ts h k = refl
both_of_steps (x ∷ xs) [] ts h k = refl
both_of_steps (x ∷ xs) (y ∷ ys) [] h k = cc
both_of_steps (x ∷ xs) (y ∷ ys) (t ∷ ts) h k =
    let a : differ x y ≡ false = both_of_step x y t (and_left (selects x t) (lies xs ts) h) (and_left (selects y t) (lies ys ts) k) in
    let b : some_differ xs ys ≡ false = both_of_steps xs ys ts (and_right (selects x t) (lies xs ts) h) (and_right (selects y t) (lies ys ts) k) in
    grind (arith, a, b)

pub apart_met : (xs ys : List PartSelector) → are_apart xs ys ≡ false → Meet xs ys
apart_met xs ys h =
    let none = or_left (has_empty xs || has_empty ys) (some_differ xs ys) h in
    steps_of_both xs ys (or_left (has_empty xs) (has_empty ys) none) (or_right (has_empty xs) (has_empty ys) none) (or_right (has_empty xs || has_empty ys) (some_differ xs ys) h)

pub met_apart : (xs ys : List PartSelector) → Meet xs ys → are_apart xs ys ≡ false
met_apart xs ys (ts, h, k) =
    let a : has_empty xs ≡ false = one_of_steps xs ts h in
    let b : has_empty ys ≡ false = one_of_steps ys ts k in
    let c : some_differ xs ys ≡ false = both_of_steps xs ys ts h k in
    grind (arith, a, b, c)

pub apart_exactly : (xs ys : List PartSelector) → (are_apart xs ys ≡ false) ↔ Meet xs ys
apart_exactly xs ys = (apart_met xs ys, met_apart xs ys)

-- ---- laws of the overlap

pub same_test : (a b : Bool) → (a ≡ false → b ≡ false) → (b ≡ false → a ≡ false) → a ≡ b
same_test true true h k = refl
same_test true false h k = k refl
same_test false true h k = sym (h refl)
same_test false false h k = refl
