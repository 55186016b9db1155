-- Parts that are spread over lists meet those of their own list alone.
use Rattle.std.specs.Prelude.{unsigned_abs, ◌%◌, slice_get, slice_set, not, Result, Ok, Err, OnOk, OnErr}
use Rattle.std.specs.List.{list_any}
use Rattle.std.specs.Str.{bytes_eq}
use Rattle.std.proofs.Common.{◌≡◌, ◌≢◌, ◌∙◌, ℕ, ℤ, zero, suc, Bool, true, false, ◌||◌, ◌==◌, Some, List, [], ◌∷◌, ◌++◌, length, refl, ap, sym, subst, arith}
use Rattle.std.proofs.lemmas.Slice.Eq.{bytes_eq-Decides}
use Rattle.occ_usage_parts.specs.Keeping.{meets_some}
use Rattle.occ_usage_parts.specs.Parts.{are_apart, differ, has_empty, some_differ}
use Rattle.occ_usage_parts.specs.Places.{meet}
use Rattle.occ_types.specs.declared.interface.PartSelector.{PartSelector}
use Rattle.occ_types.specs.declared.interface.PartSelector.TheVariants as s
use Rattle.occ_types.specs.declared.interface.Places.{Places}
use Rattle.occ_types.specs.declared.interface.Places.TheVariants as places
use Rattle.occ_base.specs.Mixing.{number_of_bytes}
use Rattle.occ_usage_conflicts.specs.inside.Beginning.{list_at, list_of, list_of_places}
use Rattle.occ_usage_conflicts.specs.inside.Spreading.{IsSpread, all_in, meets_at, meets_in}

abbrev pub Parts : Type 0
Parts = List (List PartSelector)

-- ---- parts of different lists

other_places : (x y : ℤ) → unsigned_abs x ≢ unsigned_abs y → meet (places.Run x 0) (places.Run y 0) ≡ false
other_places x y d = grind (arith, d)

other_numbers : (x y n i j : ℕ) → list_at x n ≡ Some i → list_at y n ≡ Some j → j ≢ i → x ≢ y
other_numbers x y zero i j a b d = absurd (grind (arith, a))
other_numbers x y (suc n) i j a b d = λ e.
    let i_is : i ≡ x % suc n = grind (arith, a) in
    let j_is : j ≡ y % suc n = grind (arith, b) in
    d (j_is ∙ ap (λ (k : ℕ). k % suc n) (sym e) ∙ sym i_is)

names_differ : (l m : List ℕ) (n i j : ℕ) → list_at (number_of_bytes 0 l) n ≡ Some i → list_at (number_of_bytes 0 m) n ≡ Some j → j ≢ i → bytes_eq l m ≡ false
names_differ l m n i j a b d = by (bytes_eq l m) refl where
  by : (same : Bool) → bytes_eq l m ≡ same → same ≡ false
  by false e = refl
  by true e = absurd (other_numbers (number_of_bytes 0 l) (number_of_bytes 0 m) n i j a b d (ap (number_of_bytes 0) ((bytes_eq-Decides l m).0 e)))

places_differ : (p q : Places) (n i j : ℕ) → list_of_places p n ≡ Some i → list_of_places q n ≡ Some j → j ≢ i → meet p q ≡ false
places_differ places.None q n i j a b d = absurd (grind (arith, a))
places_differ places.All q n i j a b d = absurd (grind (arith, a))
places_differ (places.From x) q n i j a b d = absurd (grind (arith, a))
places_differ (places.Run x (suc m)) q n i j a b d = absurd (grind (arith, a))
places_differ (places.Run x zero) places.None n i j a b d = absurd (grind (arith, b))
places_differ (places.Run x zero) places.All n i j a b d = absurd (grind (arith, b))
places_differ (places.Run x zero) (places.From y) n i j a b d = absurd (grind (arith, b))
places_differ (places.Run x zero) (places.Run y (suc m)) n i j a b d = absurd (grind (arith, b))
places_differ (places.Run x zero) (places.Run y zero) n i j a b d = other_places x y (other_numbers (unsigned_abs x) (unsigned_abs y) n i j a b d)

not_of : (b : Bool) → b ≡ false → not b ≡ true
not_of true e = absurd (grind (arith, e))
not_of false e = refl

first_true : (a b c d : Bool) → c ≡ true → (a || b || (c || d)) ≡ true
first_true true b c d e = refl
first_true false true c d e = refl
first_true false false true d e = refl
first_true false false false d e = absurd (grind (arith, e))

pub apart : (p q : List PartSelector) (n i j : ℕ) → list_of p n ≡ Some i → list_of q n ≡ Some j → j ≢ i → are_apart p q ≡ true
apart [] q n i j a b d = absurd (grind (arith, a))
apart (s.Field l ∷ xs) [] n i j a b d = absurd (grind (arith, b))
apart (s.Field l ∷ xs) (s.Field m ∷ ys) n i j a b d =
    first_true (has_empty (s.Field l ∷ xs)) (has_empty (s.Field m ∷ ys)) (differ (s.Field l) (s.Field m)) (some_differ xs ys)
    (not_of (bytes_eq l m) (names_differ l m n i j a b d))
apart (s.Field l ∷ xs) (s.Interval y ∷ ys) n i j a b d =
    first_true (has_empty (s.Field l ∷ xs)) (has_empty (s.Interval y ∷ ys)) (differ (s.Field l) (s.Interval y)) (some_differ xs ys) refl
apart (s.Interval x ∷ xs) [] n i j a b d = absurd (grind (arith, b))
apart (s.Interval x ∷ xs) (s.Field m ∷ ys) n i j a b d =
    first_true (has_empty (s.Interval x ∷ xs)) (has_empty (s.Field m ∷ ys)) (differ (s.Interval x) (s.Field m)) (some_differ xs ys) refl
apart (s.Interval x ∷ xs) (s.Interval y ∷ ys) n i j a b d =
    first_true (has_empty (s.Interval x ∷ xs)) (has_empty (s.Interval y ∷ ys)) (differ (s.Interval x) (s.Interval y)) (some_differ xs ys)
    (not_of (meet x.places y.places) (places_differ x.places y.places n i j a b d))

-- ---- asked for

or_false : (b : Bool) → (b || false) ≡ b
or_false true = refl
or_false false = refl

none_in : (lists : List Parts) (q : List PartSelector) → ((i : ℕ) (ps : Parts) → slice_get lists i ≡ Some ps → meets_some ps q ≡ false) → meets_in lists q ≡ false
none_in [] q never = refl
none_in (ps ∷ more) q never = ap (λ (b : Bool). b || meets_in more q) (never 0 ps refl) ∙ none_in more q (λ i rs e. never (suc i) rs e)

in_one : (lists : List Parts) (q : List PartSelector) (j : ℕ)
    → ((i : ℕ) (ps : Parts) → slice_get lists i ≡ Some ps → j ≢ i → meets_some ps q ≡ false) → meets_in lists q ≡ meets_at lists j q
in_one [] q j never = refl
in_one (ps ∷ more) q zero never =
    ap (λ (b : Bool). meets_some ps q || b) (none_in more q (λ i rs e. never (suc i) rs e (λ z. absurd (let w : zero ≡ suc i = z in omega (arith, w))))) ∙ or_false (meets_some ps q)
in_one (ps ∷ more) q (suc j) never =
    ap (λ (b : Bool). b || meets_in more q) (never 0 ps refl (λ z. absurd (let w : suc j ≡ zero = z in omega (arith, w))))
    ∙ in_one more q j (λ i rs e d. never (suc i) rs e (λ z. d (let w : suc j ≡ suc i = z in omega (arith, w))))

-- a part with a list meets none but those of its list
pub own_list : (lists : List Parts) (q : List PartSelector) (j : ℕ) → IsSpread lists → list_of q (length lists) ≡ Some j → meets_in lists q ≡ meets_at lists j q
own_list lists q j spread e = in_one lists q j (λ i ps at d. spread i ps q j at e d)

-- ---- added to

put_in : (lists : List Parts) (q : List PartSelector) (j : ℕ) (old new : Parts) (more : Bool) → slice_get lists j ≡ Some old
    → meets_some new q ≡ (meets_some old q || more) → meets_in (slice_set lists j new) q ≡ (meets_in lists q || more)
put_in [] q j old new more at e = absurd (grind (arith, at))
put_in (ps ∷ rest) q zero old new more at e =
    let is : ps ≡ old = grind (arith, at) in
    ap (λ (b : Bool). b || meets_in rest q) (e ∙ ap (λ (z : Parts). meets_some z q || more) (sym is)) ∙ moved (meets_some ps q) more (meets_in rest q) where
      moved : (a b c : Bool) → ((a || b) || c) ≡ ((a || c) || b)
      moved true b c = refl
      moved false true true = refl
      moved false true false = refl
      moved false false true = refl
      moved false false false = refl
put_in (ps ∷ rest) q (suc j) old new more at e =
    ap (λ (b : Bool). meets_some ps q || b) (put_in rest q j old new more at e) ∙ sym (regrouped (meets_some ps q) (meets_in rest q) more) where
      regrouped : (a b c : Bool) → ((a || b) || c) ≡ (a || (b || c))
      regrouped true b c = refl
      regrouped false b c = refl

set_length : {X : Type 0} (xs : List X) (i : ℕ) (x : X) → length (slice_set xs i x) ≡ length xs
set_length [] i x = refl
set_length (y ∷ ys) zero x = refl
set_length (y ∷ ys) (suc i) x = ap suc (set_length ys i x)

-- what stands in a list that was set
set_there : {X : Type 0} (xs : List X) (i : ℕ) (x y : X) (k : ℕ) → slice_get (slice_set xs i x) k ≡ Some y → k ≢ i → slice_get xs k ≡ Some y
set_there [] i x y k e d = e
set_there (z ∷ zs) zero x y zero e d = absurd (d refl)
set_there (z ∷ zs) zero x y (suc k) e d = e
set_there (z ∷ zs) (suc i) x y zero e d = e
set_there (z ∷ zs) (suc i) x y (suc k) e d = set_there zs i x y k e (λ w. d (ap suc w))

set_here : {X : Type 0} (xs : List X) (i : ℕ) (x y : X) → slice_get (slice_set xs i x) i ≡ Some y → x ≡ y
set_here [] i x y e = absurd (grind (arith, e))
set_here (z ∷ zs) zero x y e = grind (arith, e)
set_here (z ∷ zs) (suc i) x y e = set_here zs i x y e

same_number : (m n : ℕ) → (m == n) ≡ true → m ≡ n
same_number m n e = grind (arith, e)

other_number : (m n : ℕ) → (m == n) ≡ false → m ≢ n
other_number m n e = λ w. absurd (grind (arith, e, w))

both_false : (a c : Bool) → a ≡ false → c ≡ true → (a || not c) ≡ false
both_false a c e f = ap (λ (x : Bool). x || not c) e ∙ ap not f

pub stays_spread : (lists : List Parts) (j : ℕ) (old new : Parts) (p : List PartSelector) → IsSpread lists → slice_get lists j ≡ Some old → list_of p (length lists) ≡ Some j
    → ((q : List PartSelector) → meets_some new q ≡ (meets_some old q || not (are_apart p q))) → IsSpread (slice_set lists j new)
stays_spread lists j old new p spread at of e = λ i ps q k there q_of d. put i ps q k there (subst (λ (n : ℕ). list_of q n ≡ Some k) (set_length lists j new) q_of) d (i == j) refl where
  put : (i : ℕ) (ps : Parts) (q : List PartSelector) (k : ℕ) → slice_get (slice_set lists j new) i ≡ Some ps → list_of q (length lists) ≡ Some k → k ≢ i
      → (same : Bool) → (i == j) ≡ same → meets_some ps q ≡ false
  put i ps q k there q_of d true w =
      let is : i ≡ j = same_number i j w in
      let elsewhere : k ≢ j = λ v. d (v ∙ sym is) in
      let set : new ≡ ps = set_here lists j new ps (subst (λ (n : ℕ). slice_get (slice_set lists j new) n ≡ Some ps) is there) in
      ap (λ (z : Parts). meets_some z q) (sym set) ∙ e q
      ∙ both_false (meets_some old q) (are_apart p q) (spread j old q k at q_of elsewhere) (apart p q (length lists) j k of q_of elsewhere)
  put i ps q k there q_of d false w = spread i ps q k (set_there lists j new ps i there (other_number i j w)) q_of d

-- also where it lost some
pub fewer_spread : (lists : List Parts) (j : ℕ) (old new : Parts) → IsSpread lists → slice_get lists j ≡ Some old
    → ((q : List PartSelector) → meets_some old q ≡ false → meets_some new q ≡ false) → IsSpread (slice_set lists j new)
fewer_spread lists j old new spread at e = λ i ps q k there q_of d. put i ps q k there (subst (λ (n : ℕ). list_of q n ≡ Some k) (set_length lists j new) q_of) d (i == j) refl where
  put : (i : ℕ) (ps : Parts) (q : List PartSelector) (k : ℕ) → slice_get (slice_set lists j new) i ≡ Some ps → list_of q (length lists) ≡ Some k → k ≢ i
      → (same : Bool) → (i == j) ≡ same → meets_some ps q ≡ false
  put i ps q k there q_of d true w =
      let is : i ≡ j = same_number i j w in
      let elsewhere : k ≢ j = λ v. d (v ∙ sym is) in
      let set : new ≡ ps = set_here lists j new ps (subst (λ (n : ℕ). slice_get (slice_set lists j new) n ≡ Some ps) is there) in
      ap (λ (z : Parts). meets_some z q) (sym set) ∙ e q (spread j old q k at q_of elsewhere)
  put i ps q k there q_of d false w = spread i ps q k (set_there lists j new ps i there (other_number i j w)) q_of d

pub put_spread : (lists : List Parts) (j : ℕ) (old new : Parts) (p : List PartSelector) → slice_get lists j ≡ Some old
    → ((q : List PartSelector) → meets_some new q ≡ (meets_some old q || not (are_apart p q)))
    → (q : List PartSelector) → meets_in (slice_set lists j new) q ≡ (meets_in lists q || not (are_apart p q))
put_spread lists j old new p at e q = put_in lists q j old new (not (are_apart p q)) at (e q)

-- ---- all of them

any_both : {X : Type 0} (f : X → Bool) (xs ys : List X) → list_any f (xs ++ ys) ≡ (list_any f xs || list_any f ys)
any_both f [] ys = refl
any_both f (x ∷ xs) ys = ap (λ (b : Bool). f x || b) (any_both f xs ys) ∙ sym (regrouped (f x) (list_any f xs) (list_any f ys)) where
  regrouped : (a b c : Bool) → ((a || b) || c) ≡ (a || (b || c))
  regrouped true b c = refl
  regrouped false b c = refl

in_all : (lists : List Parts) (q : List PartSelector) → meets_some (all_in lists) q ≡ meets_in lists q
in_all [] q = refl
in_all (ps ∷ more) q = any_both (λ (p : List PartSelector). not (are_apart p q)) ps (all_in more) ∙ ap (λ (b : Bool). meets_some ps q || b) (in_all more q)

pub accumulated_meets : (few : Parts) (lists : List Parts) (q : List PartSelector) → meets_some (few ++ all_in lists) q ≡ (meets_some few q || meets_in lists q)
accumulated_meets few lists q = any_both (λ (p : List PartSelector). not (are_apart p q)) few (all_in lists) ∙ ap (λ (b : Bool). meets_some few q || b) (in_all lists q)

-- ---- lists without a part

pub one_more_empty : (lists : List Parts) → ((q : List PartSelector) → meets_in lists q ≡ false) → (q : List PartSelector) → meets_in (lists ++ [] ∷ []) q ≡ false
one_more_empty lists never q = any_both (λ (ps : Parts). meets_some ps q) lists ([] ∷ []) ∙ ap (λ (b : Bool). b || false) (never q)

none_of : (lists : List Parts) (q : List PartSelector) (i : ℕ) (ps : Parts) → meets_in lists q ≡ false → slice_get lists i ≡ Some ps → meets_some ps q ≡ false
none_of [] q i ps never at = absurd (grind (arith, at))
none_of (rs ∷ more) q zero ps never at = let is : rs ≡ ps = grind (arith, at) in ap (λ (z : Parts). meets_some z q) (sym is) ∙ left_false (meets_some rs q) (meets_in more q) never where
  left_false : (a c : Bool) → (a || c) ≡ false → a ≡ false
  left_false true c e = e
  left_false false c e = refl
none_of (rs ∷ more) q (suc i) ps never at = none_of more q i ps (right_false (meets_some rs q) (meets_in more q) never) at where
  right_false : (a c : Bool) → (a || c) ≡ false → c ≡ false
  right_false true c e = absurd (grind (arith, e))
  right_false false c e = e

pub empty_spread : (lists : List Parts) → ((q : List PartSelector) → meets_in lists q ≡ false) → IsSpread lists
empty_spread lists never = λ i ps q j at of d. none_of lists q i ps (never q) at

-- ---- a part that goes to the few

pub few_more : (few lists : Bool) (more new : Bool) → new ≡ (few || more) → (new || lists) ≡ ((few || lists) || more)
few_more few lists more new e = ap (λ (b : Bool). b || lists) e ∙ moved few more lists where
  moved : (a b c : Bool) → ((a || b) || c) ≡ ((a || c) || b)
  moved true b c = refl
  moved false true true = refl
  moved false true false = refl
  moved false false true = refl
  moved false false false = refl

-- ---- after a step

pub on_result : {A E : Type 0} (r : Result A E) {P Q R : Type 0} → (P → R) → (Q → R) → OnOk r P → OnErr r Q → R
on_result (Ok a) f g p q = f p
on_result (Err e) f g p q = g q
