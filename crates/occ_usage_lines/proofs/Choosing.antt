-- The specifications that concern uses are among those in the lists that are asked for their parts.
use Rattle.std.specs.Prelude.{◌==◌, ◌+◌, ◌-◌, eqb, slice_get, IsPermutation, IsSorted}
use Rattle.std.specs.Cmp.{ranked}
use Rattle.std.specs.List.{dedup, dedup_from, filter, list_any}
use Rattle.std.specs.List.Retain.{DiffersFromLast, IsFiltered}
use Rattle.std.specs.List.Sorted.{IsStrictlySortedBy}
use Rattle.std.specs.Ordering.{nat_cmp}
use Rattle.std.specs.declared.cmp.Ordering.TheVariants.{Less}
use Rattle.std.proofs.lemmas.List.Filters.{dedup_is}
use Rattle.std.proofs.lemmas.List.Sorted.{list_any-IsPermutation}
use Rattle.std.proofs.lemmas.Map.Keys.{IsStrictlyIncreasing-dedup, sorted_from_strictly_increasing}
use Rattle.std.proofs.Common.{arith, ◌≡◌, ◌∙◌, ◌<◌, ◌≤◌, ◌⊎◌, inl, inr, ℕ, zero, suc, Bool, true, false, ◌||◌, ◌&&◌, Option, Some, None, List, [], ◌∷◌, ◌++◌, length, refl, ap, sym, subst, if◌then◌else◌}
use Rattle.occ_usage_values.specs.declared.bound.Bound.{Bound}
use Rattle.occ_usage_values.specs.declared.bound.Bound.TheVariants as b
use Rattle.occ_usage_values.specs.declared.uses.Use.{Use}
use Rattle.occ_usage_conflicts.specs.Kinds.{is_write}
use Rattle.occ_usage_conflicts.proofs.Spreading.{apart}
use Rattle.occ_usage_parts.specs.Parts.{all_sure, are_apart, overlap_of_selectors}
use Rattle.occ_usage_parts.specs.Selecting.{selectors_of}
use Rattle.occ_usage_parts.specs.declared.place.Ending.{Ending}
use Rattle.occ_usage_parts.specs.declared.place.Ending.TheVariants as after
use Rattle.occ_usage_parts.specs.declared.place.SelectedPart.{SelectedPart}
use Rattle.occ_usage_parts.specs.declared.part.Overlap.TheVariants as o
use Rattle.occ_usage_parts.specs.declared.part.Part.{Part}
use Rattle.occ_types.specs.declared.interface.PartSelector.{PartSelector}
use Rattle.occ_types.specs.declared.interface.PartSelector.TheVariants as s
use Rattle.occ_usage_lines.specs.Concern.{concerned, concerns, concerns_some, is_near, is_some, names_near, reads_of, some_near}
use Rattle.occ_usage_lines.specs.inside.Noting.{AreNoted, Lists, are_in, asked_list, beginning_of, begun_list, concerns_at, concerns_one, has_read, is_asked, is_chosen, is_found, is_in, is_in_list, is_noted, is_placed_in, like_list, names_in, noted, whole_list}
use Rattle.occ_usage_lines.proofs.Listing.{either_cases}

-- ---- numbers

moved : (a b c : Bool) → (a || (b || c)) ≡ ((a || b) || c)
moved true b c = refl
moved false b c = refl

pub in_both : (xs ys : List ℕ) (n : ℕ) → is_in (xs ++ ys) n ≡ (is_in xs n || is_in ys n)
in_both [] ys n = refl
in_both (x ∷ xs) ys n = ap (λ (b : Bool). (x == n) || b) (in_both xs ys n) ∙ moved (x == n) (is_in xs n) (is_in ys n)

-- one more that a use is concerned by, and one that it is not
pub chosen_more : (xs : List Bound) (u : Use) (ns ks : List ℕ) (k n : ℕ) → concerns_one (slice_get xs k) u ≡ true
    → (is_in (ns ++ k ∷ []) n || is_chosen xs u ks n) ≡ (is_in ns n || is_chosen xs u (k ∷ ks) n)
chosen_more xs u ns ks k n e = ap (λ (b : Bool). b || is_chosen xs u ks n) (in_both ns (k ∷ []) n) ∙ by (k == n) refl where
  kept : (a c : Bool) → ((a || (true || false)) || c) ≡ (a || true)
  kept true c = refl
  kept false c = refl

  other : (a b c : Bool) → ((a || (false || false)) || (b && c)) ≡ (a || ((false || b) && c))
  other true b c = refl
  other false b c = refl

  by : (same : Bool) → (k == n) ≡ same → ((is_in ns n || (same || false)) || is_chosen xs u ks n) ≡ (is_in ns n || ((same || is_in ks n) && concerns_one (slice_get xs n) u))
  by true f =
      let is : k ≡ n = grind (arith, f) in
      let one : concerns_one (slice_get xs n) u ≡ true = ap (λ (m : ℕ). concerns_one (slice_get xs m) u) (sym is) ∙ e in
      kept (is_in ns n) (is_chosen xs u ks n) ∙ ap (λ (b : Bool). is_in ns n || b) (sym one)
  by false f = other (is_in ns n) (is_in ks n) (concerns_one (slice_get xs n) u)

pub chosen_same : (xs : List Bound) (u : Use) (ks : List ℕ) (k n : ℕ) → concerns_one (slice_get xs k) u ≡ false → is_chosen xs u ks n ≡ is_chosen xs u (k ∷ ks) n
chosen_same xs u ks k n e = by (k == n) refl where
  none : (a : Bool) → (a && false) ≡ (true && false)
  none true = refl
  none false = refl

  by : (same : Bool) → (k == n) ≡ same → is_chosen xs u ks n ≡ ((same || is_in ks n) && concerns_one (slice_get xs n) u)
  by true f =
      let is : k ≡ n = grind (arith, f) in
      let one : concerns_one (slice_get xs n) u ≡ false = ap (λ (m : ℕ). concerns_one (slice_get xs m) u) (sym is) ∙ e in
      ap (λ (b : Bool). is_in ks n && b) one ∙ none (is_in ks n) ∙ ap (λ (b : Bool). true && b) (sym one)
  by false f = refl

-- what is there twice
twice : (a b : Bool) → (a || b) ≡ (a || (a || b))
twice true b = refl
twice false b = refl

in_rest : (same : Bool) (k x n : ℕ) (xs : List ℕ) → (x == k) ≡ same → is_in (dedup_from eqb k xs) n ≡ ((k == n) || is_in xs n) → is_in (dedup_from eqb x xs) n ≡ ((x == n) || is_in xs n)
    → is_in (if same then dedup_from eqb k xs else k ∷ dedup_from eqb x xs) n ≡ ((k == n) || is_in (x ∷ xs) n)
in_rest true k x n xs e h i =
    let is : x ≡ k = grind (arith, e) in
    h ∙ twice (k == n) (is_in xs n) ∙ ap (λ (m : ℕ). (k == n) || ((m == n) || is_in xs n)) (sym is)
in_rest false k x n xs e h i = ap (λ (b : Bool). (k == n) || b) i

in_dedup_from : (k n : ℕ) (xs : List ℕ) → is_in (dedup_from eqb k xs) n ≡ ((k == n) || is_in xs n)
in_dedup_from k n [] = refl
in_dedup_from k n (x ∷ xs) = in_rest (x == k) k x n xs refl (in_dedup_from k n xs) (in_dedup_from x n xs)

in_dedup : (xs : List ℕ) (n : ℕ) → is_in (dedup eqb xs) n ≡ is_in xs n
in_dedup [] n = refl
in_dedup (x ∷ xs) n = in_dedup_from x n xs

-- in order, each once
pub same_in_order : (xs ys zs : List ℕ) (n : ℕ) → IsPermutation xs ys → IsFiltered (DiffersFromLast eqb) [] ys zs → is_in zs n ≡ is_in xs n
same_in_order xs ys zs n h i =
    ap (λ (ns : List ℕ). is_in ns n) (dedup_is eqb ys zs i) ∙ in_dedup ys n ∙ sym (list_any-IsPermutation (λ (k : ℕ). k == n) xs ys h)

pub in_order_rises : (ys zs : List ℕ) → IsSorted nat_cmp ys → IsFiltered (DiffersFromLast eqb) [] ys zs → IsStrictlySortedBy nat_cmp zs
in_order_rises ys zs h i =
    subst (IsStrictlySortedBy nat_cmp) (sym (dedup_is eqb ys zs i)) (sorted_from_strictly_increasing (dedup eqb ys) (IsStrictlyIncreasing-dedup ys h))

-- ---- rising numbers

-- each from n on, and above those before it
abbrev pub Rises : ℕ → List ℕ → Type 0
Rises n [] = Unit {0}
Rises n (k ∷ ks) = (n ≤ k) × Rises (k + 1) ks

above : (k : ℕ) (ks : List ℕ) → IsStrictlySortedBy nat_cmp (k ∷ ks) → Rises (k + 1) ks
unfolding IsStrictlySortedBy
above k [] h = tt
above k (x ∷ ks) h =
    let l : k < x = ranked k x Less (sym h.0.0) in
    (omega (arith, l), above x ks h.1)

rises : (ks : List ℕ) → IsStrictlySortedBy nat_cmp ks → Rises 0 ks
rises [] h = tt
rises (k ∷ ks) h = (omega arith, above k ks h)

below : (n m : ℕ) (ks : List ℕ) → Rises n ks → m < n → is_in ks m ≡ false
below n m [] h l = refl
below n m (k ∷ ks) h l =
    let a : n ≤ k = h.0 in
    let other : (k == m) ≡ false = grind (arith, a, l) in
    ap (λ (b : Bool). b || is_in ks m) other ∙ below (k + 1) m ks h.1 (omega (arith, a, l))

-- ---- those that a test chooses

none_more : (test : ℕ → Bool) (n : ℕ) (ks : List ℕ) → ((m : ℕ) → n ≤ m → test m ≡ false) → Rises n ks → filter test ks ≡ []
none_more test n [] h r = refl
none_more test n (k ∷ ks) h r =
    let a : n ≤ k = r.0 in
    ap (λ (b : Bool). if b then k ∷ filter test ks else filter test ks) (h k a)
    ∙ none_more test (k + 1) ks (λ (m : ℕ) (l : k + 1 ≤ m). h m (omega (arith, a, l))) r.1

-- the specifications are these from n on, by the test
abbrev pub Suits : (ℕ → Bool) → ℕ → List Bound → List Use → Type 0
Suits test n xs us = (m : ℕ) → test (n + m) ≡ concerns_at (slice_get xs m) us

suits_after : (test : ℕ → Bool) (n : ℕ) (x : Bound) (xs : List Bound) (us : List Use) → Suits test n (x ∷ xs) us → Suits test (n + 1) xs us
suits_after test n x xs us h m = let e : (n + 1) + m ≡ n + suc m = omega arith in ap test e ∙ h (suc m)

suits_first : (test : ℕ → Bool) (n : ℕ) (x : Bound) (xs : List Bound) (us : List Use) → Suits test n (x ∷ xs) us → test n ≡ concerns_some x us
suits_first test n x xs us h = let e : n ≡ n + zero = omega arith in ap test e ∙ h zero

suits_none : (test : ℕ → Bool) (n : ℕ) (us : List Use) → Suits test n [] us → (m : ℕ) → n ≤ m → test m ≡ false
suits_none test n us h m l = let e : m ≡ n + (m - n) = omega (arith, l) in ap test e ∙ h (m - n)

-- each that the test chooses is among these
abbrev pub Has : (ℕ → Bool) → ℕ → List ℕ → Type 0
Has test n ks = (m : ℕ) → n ≤ m → test m ≡ true → is_in ks m ≡ true

has_after : (test : ℕ → Bool) (n : ℕ) (ks : List ℕ) → Has test n (n ∷ ks) → Has test (n + 1) ks
has_after test n ks h m l e =
    let other : (n == m) ≡ false = grind (arith, l) in
    let among : ((n == m) || is_in ks m) ≡ true = h m (omega (arith, l)) e in
    sym (ap (λ (b : Bool). b || is_in ks m) other) ∙ among

-- a first that is not among them is not chosen
not_first : (test : ℕ → Bool) (n : ℕ) (ks : List ℕ) (b : Bool) → test n ≡ b → Has test n ks → Rises (n + 1) ks → b ≡ false
not_first test n ks false e h r = refl
not_first test n ks true e h r =
    let among : is_in ks n ≡ true = h n (omega arith) e in
    let none : is_in ks n ≡ false = below (n + 1) n ks r (omega arith) in
    absurd (grind (arith, among, none))

-- that the first number is n, or one after it
first_or : (n k : ℕ) → n ≤ k → (n ≡ k) ⊎ (n + 1 ≤ k)
first_or n k l = grind (arith, l)

abbrev pub Chooses : List Bound → List Use → Type 0
Chooses xs us = (test : ℕ → Bool) (n : ℕ) (ks : List ℕ) → Suits test n xs us → Rises n ks → Has test n ks → filter test ks ≡ concerned n xs us

skipped : (x : Bound) (xs : List Bound) (us : List Use) → Chooses xs us → (test : ℕ → Bool) (n : ℕ) (ks : List ℕ)
    → Suits test n (x ∷ xs) us → Rises (n + 1) ks → Has test n ks → filter test ks ≡ concerned n (x ∷ xs) us
skipped x xs us more test n ks s r h =
    let none : concerns_some x us ≡ false = not_first test n ks (concerns_some x us) (suits_first test n x xs us s) h r in
    more test (n + 1) ks (suits_after test n x xs us s) r (λ (m : ℕ) (l : n + 1 ≤ m). h m (omega (arith, l)))
    ∙ sym (ap (λ (b : Bool). if b then n ∷ concerned (n + 1) xs us else concerned (n + 1) xs us) none)

taken : (x : Bound) (xs : List Bound) (us : List Use) → Chooses xs us → (test : ℕ → Bool) (n : ℕ) (ks : List ℕ)
    → Suits test n (x ∷ xs) us → Rises (n + 1) ks → Has test n (n ∷ ks) → filter test (n ∷ ks) ≡ concerned n (x ∷ xs) us
taken x xs us more test n ks s r h =
    ap (λ (b : Bool). if b then n ∷ filter test ks else filter test ks) (suits_first test n x xs us s)
    ∙ ap (λ (ms : List ℕ). if concerns_some x us then n ∷ ms else ms) (more test (n + 1) ks (suits_after test n x xs us s) r (has_after test n ks h))

chooses : (xs : List Bound) (us : List Use) → Chooses xs us
chooses [] us test n ks s r h = none_more test n ks (suits_none test n us s) r
chooses (x ∷ xs) us test n [] s r h = skipped x xs us (chooses xs us) test n [] s tt h
chooses (x ∷ xs) us test n (k ∷ ks) s r h = elim (first_or n k r.0) [
  | inl same ↦
      subst (λ (j : ℕ). Rises (j + 1) ks → Has test n (j ∷ ks) → filter test (j ∷ ks) ≡ concerned n (x ∷ xs) us) same
      (taken x xs us (chooses xs us) test n ks s) r.1 h
  | inr following ↦ skipped x xs us (chooses xs us) test n (k ∷ ks) s (following, r.1) h
]

-- ---- those that concern uses

second_of : (a b : Bool) → b ≡ true → (a || b) ≡ true
second_of true b e = refl
second_of false b e = e

both_of : (a b : Bool) → a ≡ true → b ≡ true → (a && b) ≡ true
both_of true b e f = f
both_of false b e f = absurd (grind (arith, e))

one_of : (w a b c d : Bool) → (a ≡ true → c ≡ true) → (b ≡ true → d ≡ true) → (a || (w && b)) ≡ true → (c || (w && d)) ≡ true
one_of w true b c d f g e = ap (λ (z : Bool). z || (w && d)) (f refl)
one_of true false b c d f g e = second_of c d (g e)
one_of false false b c d f g e = absurd (grind (arith, e))

-- parts that are not apart are of one root
same_root : (same : Bool) (xs ys : List PartSelector) → is_some (if same then overlap_of_selectors xs ys else o.Apart) ≡ true → same ≡ true
same_root true xs ys e = refl
same_root false xs ys e = absurd (grind (arith, e))

-- and if both begin with a field or one place, it is one
meeting : (same : Bool) (xs ys : List PartSelector) → is_some (if same then overlap_of_selectors xs ys else o.Apart) ≡ true → are_apart xs ys ≡ false
meeting true xs ys e = by (are_apart xs ys) refl where
  by : (apart : Bool) → are_apart xs ys ≡ apart → apart ≡ false
  by false f = refl
  by true f = absurd (let g : is_some (if true then o.Apart else if all_sure xs ys then o.Must else o.May) ≡ true = ap (λ (b : Bool). is_some (if b then o.Apart else if all_sure xs ys then o.Must else o.May)) (sym f) ∙ e in grind (arith, g))
meeting false xs ys e = absurd (grind (arith, e))

same_beginning : (xs ys : List PartSelector) (i j : ℕ) → beginning_of xs ≡ Some i → beginning_of ys ≡ Some j → are_apart xs ys ≡ false → i ≡ j
same_beginning xs ys i j e f h = by (j == i) refl where
  by : (same : Bool) → (j == i) ≡ same → i ≡ j
  by true g = grind (arith, g)
  by false g = absurd (let a : are_apart xs ys ≡ true = apart xs ys 1021 i j e f (λ (k : j ≡ i). absurd (grind (arith, g, k))) in grind (arith, a, h))

-- what follows a beginning changes nothing of it
begins_so : (xs : List PartSelector) (ending : Ending) (i : ℕ) → beginning_of xs ≡ Some i → beginning_of (selectors_of xs ending) ≡ Some i
begins_so [] ending i e = absurd (grind (arith, e))
begins_so (x ∷ xs) after.Plain i h = h
begins_so (s.Field name ∷ xs) (after.Segment it base) i h = h
begins_so (s.Interval y ∷ xs) (after.Segment it base) i h = h
begins_so (x ∷ xs) after.Whole i h = h

-- the list that is asked for a part, or that of the whole of its root
abbrev pub IsAsked : (ℕ → Bool) → ℕ → Option ℕ → Type 0
IsAsked is_there root begins = (is_there (whole_list root) || is_there (asked_list root begins)) ≡ true

itself : (n : ℕ) → (n == n) ≡ true
itself n = grind arith

first_of : (a b : Bool) → a ≡ true → (a || b) ≡ true
first_of true b e = refl
first_of false b e = absurd (grind (arith, e))

-- what is noted with a part is asked for those that are not apart from it: with p how it begins, and with q how they do
noted_is_asked : (root : ℕ) (p q : Option ℕ) → ((i j : ℕ) → p ≡ Some i → q ≡ Some j → i ≡ j) → IsAsked (λ (list : ℕ). is_in_list list root p) root q
noted_is_asked root None q h = first_of (whole_list root == whole_list root) (whole_list root == asked_list root q) (itself (whole_list root))
noted_is_asked root (Some i) None h =
    second_of (is_in_list (whole_list root) root (Some i)) (is_in_list (begun_list root) root (Some i))
    (first_of (begun_list root == begun_list root) (like_list root i == begun_list root) (itself (begun_list root)))
noted_is_asked root (Some i) (Some j) h =
    let same : i ≡ j = h i j refl refl in
    second_of (is_in_list (whole_list root) root (Some i)) (is_in_list (like_list root j) root (Some i))
    (second_of (begun_list root == like_list root j) (like_list root i == like_list root j)
    (subst (λ (k : ℕ). (like_list root i == like_list root k) ≡ true) same (itself (like_list root i))))

-- the same of the root of the other part
of_root : (p q : Option ℕ) (root other : ℕ) → (root == other) ≡ true → IsAsked (λ (list : ℕ). is_in_list list root p) root q → IsAsked (λ (list : ℕ). is_in_list list root p) other q
of_root p q root other e h = let same : root ≡ other = grind (arith, e) in subst (λ (r : ℕ). IsAsked (λ (list : ℕ). is_in_list list root p) r q) same h

-- of a place, and of a part of it
placed : (p : SelectedPart) (q : Part) → is_near q (Some p) ≡ true → IsAsked (λ (list : ℕ). is_placed_in list (Some p)) q.root (beginning_of q.selectors)
placed p q e =
    let xs = selectors_of p.selectors p.ending in
    of_root (beginning_of p.selectors) (beginning_of q.selectors) p.root q.root (same_root (p.root == q.root) xs q.selectors e)
    (noted_is_asked p.root (beginning_of p.selectors) (beginning_of q.selectors)
    (λ (i j : ℕ) (f : beginning_of p.selectors ≡ Some i) (g : beginning_of q.selectors ≡ Some j).
    same_beginning xs q.selectors i j (begins_so p.selectors p.ending i f) g (meeting (p.root == q.root) xs q.selectors e)))

named : (q : Part) (x : Bound) → names_near q x ≡ true → IsAsked (λ (list : ℕ). names_in list x) q.root (beginning_of q.selectors)
named q (b.Abbreviation None size reads) e = absurd (grind (arith, e))
named q (b.Abbreviation (Some p) size reads) e = placed p q e
named q (b.Value v size reads) e = absurd (grind (arith, e))
named q (b.Root name) e = absurd (grind (arith, e))
named q (b.Body uses does) e = absurd (grind (arith, e))
named q b.Other e = absurd (grind (arith, e))

either_first : (a b c d : Bool) → (a || b) ≡ true → ((a || c) || (b || d)) ≡ true
either_first true b c d e = refl
either_first false true c d e = second_of c (true || d) refl
either_first false false c d e = absurd (grind (arith, e))

either_second : (a b c d : Bool) → (c || d) ≡ true → ((a || c) || (b || d)) ≡ true
either_second true b c d e = refl
either_second false b true d e = refl
either_second false b false d e = second_of b d e

one_read : (p : Part) (u : Use) → is_some (if p.root == u.part.root then overlap_of_selectors p.selectors u.part.selectors else o.Apart) ≡ true
    → IsAsked (λ (list : ℕ). is_in_list list u.part.root (beginning_of u.part.selectors)) p.root (beginning_of p.selectors)
one_read p u e =
    let same : (p.root == u.part.root) ≡ true = same_root (p.root == u.part.root) p.selectors u.part.selectors e in
    let other : (u.part.root == p.root) ≡ true = grind (arith, same) in
    of_root (beginning_of u.part.selectors) (beginning_of p.selectors) u.part.root p.root other
    (noted_is_asked u.part.root (beginning_of u.part.selectors) (beginning_of p.selectors)
    (λ (i j : ℕ) (f : beginning_of u.part.selectors ≡ Some i) (g : beginning_of p.selectors ≡ Some j).
    sym (same_beginning p.selectors u.part.selectors j i g f (meeting (p.root == u.part.root) p.selectors u.part.selectors e))))

read_of : (p : Part) (us : List Use) → some_near p us ≡ true → IsAsked (λ (list : ℕ). are_in list us) p.root (beginning_of p.selectors)
read_of p [] e = absurd (grind (arith, e))
read_of p (u ∷ us) e =
    let k = whole_list p.root in
    let l = asked_list p.root (beginning_of p.selectors) in
    let begins = beginning_of u.part.selectors in
    elim (either_cases (is_some (if p.root == u.part.root then overlap_of_selectors p.selectors u.part.selectors else o.Apart)) (some_near p us) e) [
      | inl here ↦ either_first (is_in_list k u.part.root begins) (is_in_list l u.part.root begins) (are_in k us) (are_in l us) (one_read p u here)
      | inr following ↦ either_second (is_in_list k u.part.root begins) (is_in_list l u.part.root begins) (are_in k us) (are_in l us) (read_of p us following)
    ]

-- a number that is noted in one of the lists that are asked is chosen, if it is that of one that concerns the use
chosen_in : (is_so : ℕ → Bound → Bool) (lists : Lists) (xs : List Bound) (n : ℕ) (x : Bound) (u : Use) → AreNoted is_so xs lists → slice_get xs n ≡ Some x
    → concerns_one (slice_get xs n) u ≡ true → IsAsked (λ (list : ℕ). is_so list x) u.part.root (beginning_of u.part.selectors) → is_asked xs lists n u ≡ true
chosen_in is_so lists xs n x u h at one asked =
    let k = whole_list u.part.root in
    let l = asked_list u.part.root (beginning_of u.part.selectors) in
    elim (either_cases (is_so k x) (is_so l x) asked) [
      | inl here ↦ first_of (is_chosen xs u (noted lists k) n) (is_chosen xs u (noted lists l) n) (both_of (is_noted lists k n) (concerns_one (slice_get xs n) u) (h n k x at here) one)
      | inr following ↦ second_of (is_chosen xs u (noted lists k) n) (is_chosen xs u (noted lists l) n) (both_of (is_noted lists l n) (concerns_one (slice_get xs n) u) (h n l x at following) one)
    ]

-- one that concerns a use is found
one_found : (named_in read : Lists) (xs : List Bound) (n : ℕ) (x : Bound) (u : Use) → AreNoted names_in xs named_in → AreNoted has_read xs read → slice_get xs n ≡ Some x
    → concerns x u ≡ true → is_found xs named_in read n u ≡ true
one_found named_in read xs n x u h i at e =
    let one : concerns_one (slice_get xs n) u ≡ true = ap (λ (o : Option Bound). concerns_one o u) at ∙ e in
    one_of (is_write u.kind) (names_near u.part x) (some_near u.part (reads_of x)) (is_asked xs named_in n u) (is_asked xs read n u)
    (λ (near : names_near u.part x ≡ true). chosen_in names_in named_in xs n x u h at one (named u.part x near))
    (λ (near : some_near u.part (reads_of x) ≡ true). chosen_in has_read read xs n x u i at one (read_of u.part (reads_of x) near))
    e

some_found : (named_in read : Lists) (xs : List Bound) (n : ℕ) (x : Bound) (us : List Use) → AreNoted names_in xs named_in → AreNoted has_read xs read → slice_get xs n ≡ Some x
    → concerns_some x us ≡ true → list_any (is_found xs named_in read n) us ≡ true
some_found named_in read xs n x [] h i at e = absurd (grind (arith, e))
some_found named_in read xs n x (u ∷ us) h i at e = elim (either_cases (concerns x u) (concerns_some x us) e) [
  | inl here ↦ ap (λ (b : Bool). b || list_any (is_found xs named_in read n) us) (one_found named_in read xs n x u h i at here)
  | inr following ↦ second_of (is_found xs named_in read n u) (list_any (is_found xs named_in read n) us) (some_found named_in read xs n x us h i at following)
]

found_at : (named_in read : Lists) (xs : List Bound) (n : ℕ) (us : List Use) (o : Option Bound) → AreNoted names_in xs named_in → AreNoted has_read xs read → slice_get xs n ≡ o
    → concerns_at o us ≡ true → list_any (is_found xs named_in read n) us ≡ true
found_at named_in read xs n us None h i at e = absurd (grind (arith, e))
found_at named_in read xs n us (Some x) h i at e = some_found named_in read xs n x us h i at e

-- what is found concerns the use
by_one : (a b c : Bool) → ((a && c) || (b && c)) ≡ true → c ≡ true
by_one a b true e = refl
by_one true true false e = e
by_one true false false e = e
by_one false true false e = e
by_one false false false e = e

by_use : (w a b c : Bool) → (a ≡ true → c ≡ true) → (b ≡ true → c ≡ true) → (a || (w && b)) ≡ true → c ≡ true
by_use w true b c f g e = f refl
by_use true false b c f g e = g e
by_use false false b c f g e = absurd (grind (arith, e))

asked_concerns : (lists : Lists) (xs : List Bound) (n : ℕ) (u : Use) → is_asked xs lists n u ≡ true → concerns_one (slice_get xs n) u ≡ true
asked_concerns lists xs n u e =
    by_one (is_noted lists (whole_list u.part.root) n) (is_noted lists (asked_list u.part.root (beginning_of u.part.selectors)) n) (concerns_one (slice_get xs n) u) e

found_concerns : (named_in read : Lists) (xs : List Bound) (n : ℕ) (us : List Use) (o : Option Bound) → slice_get xs n ≡ o
    → list_any (is_found xs named_in read n) us ≡ true → concerns_at o us ≡ true
found_concerns named_in read xs n [] o at e = absurd (grind (arith, e))
found_concerns named_in read xs n (u ∷ us) o at e = elim (either_cases (is_found xs named_in read n u) (list_any (is_found xs named_in read n) us) e) [
  | inl here ↦
      first o (ap (λ (y : Option Bound). concerns_one y u) (sym at) ∙ by_use (is_write u.kind) (is_asked xs named_in n u) (is_asked xs read n u) (concerns_one (slice_get xs n) u) (asked_concerns named_in xs n u) (asked_concerns read xs n u) here)
  | inr following ↦ more o (found_concerns named_in read xs n us o at following)
] where
  first : (o : Option Bound) → concerns_one o u ≡ true → concerns_at o (u ∷ us) ≡ true
  first None f = f
  first (Some x) f = ap (λ (b : Bool). b || concerns_some x us) f

  more : (o : Option Bound) → concerns_at o us ≡ true → concerns_at o (u ∷ us) ≡ true
  more None f = f
  more (Some x) f = second_of (concerns x u) (concerns_some x us) f

-- where the test chooses each, all stay
all_stay : (test : ℕ → Bool) (ks : List ℕ) → ((n : ℕ) → is_in ks n ≡ true → test n ≡ true) → filter test ks ≡ ks
all_stay test [] h = refl
all_stay test (k ∷ ks) h =
    let here : (k == k) ≡ true = grind arith in
    ap (λ (b : Bool). if b then k ∷ filter test ks else filter test ks) (h k (ap (λ (b : Bool). b || is_in ks k) here))
    ∙ ap (λ (ns : List ℕ). k ∷ ns) (all_stay test ks (λ (n : ℕ) (e : is_in ks n ≡ true). h n (second_of (k == n) (is_in ks n) e)))

pub all_found : (named_in read : Lists) (xs : List Bound) (us : List Use) (ks : List ℕ) → AreNoted names_in xs named_in → AreNoted has_read xs read
    → ((n : ℕ) → is_in ks n ≡ list_any (is_found xs named_in read n) us) → IsStrictlySortedBy nat_cmp ks → ks ≡ concerned 0 xs us
all_found named_in read xs us ks h i among sorted =
    sym (all_stay (λ (n : ℕ). concerns_at (slice_get xs n) us) ks (λ (n : ℕ) (e : is_in ks n ≡ true). found_concerns named_in read xs n us (slice_get xs n) refl (sym (among n) ∙ e)))
    ∙ chooses xs us (λ (n : ℕ). concerns_at (slice_get xs n) us) 0 ks (λ (m : ℕ). let e : 0 + m ≡ m = omega arith in ap (λ (k : ℕ). concerns_at (slice_get xs k) us) e)
    (rises ks sorted)
    (λ (n : ℕ) (l : 0 ≤ n) (e : concerns_at (slice_get xs n) us ≡ true). among n ∙ found_at named_in read xs n us (slice_get xs n) h i refl e)

-- ---- where nothing is noted

pub empty_list : {X : Type 0} (xs : List X) → (length xs == 0) ≡ true → xs ≡ []
empty_list [] e = refl
empty_list (x ∷ xs) e = absurd (grind (arith, e))

none_noted : (k : ℕ) → noted [] k ≡ []
none_noted zero = refl
none_noted (suc k) = refl

none_asked : (xs : List Bound) (n : ℕ) (u : Use) → is_asked xs [] n u ≡ false
none_asked xs n u =
    let k = whole_list u.part.root in
    let l = asked_list u.part.root (beginning_of u.part.selectors) in
    ap (λ (ks : List ℕ). is_chosen xs u ks n || is_chosen xs u (noted [] l) n) (none_noted k) ∙ ap (λ (ks : List ℕ). is_chosen xs u ks n) (none_noted l)

and_false : (w : Bool) → (w && false) ≡ false
and_false true = refl
and_false false = refl

none_found : (xs : List Bound) (n : ℕ) (us : List Use) → list_any (is_found xs [] [] n) us ≡ false
none_found xs n [] = refl
none_found xs n (u ∷ us) =
    ap (λ (b : Bool). (b || (is_write u.kind && is_asked xs [] n u)) || list_any (is_found xs [] [] n) us) (none_asked xs n u)
    ∙ ap (λ (b : Bool). (is_write u.kind && b) || list_any (is_found xs [] [] n) us) (none_asked xs n u)
    ∙ ap (λ (b : Bool). b || list_any (is_found xs [] [] n) us) (and_false (is_write u.kind))
    ∙ none_found xs n us

nothing_rises : IsStrictlySortedBy nat_cmp []
unfolding IsStrictlySortedBy
nothing_rises = tt

pub nothing_concerns : (named_in read : Lists) (xs : List Bound) (us : List Use) → named_in ≡ [] → read ≡ [] → AreNoted names_in xs named_in → AreNoted has_read xs read
    → [] ≡ concerned 0 xs us
nothing_concerns named_in read xs us e f h i =
    all_found [] [] xs us [] (subst (λ (lists : Lists). AreNoted names_in xs lists) e h) (subst (λ (lists : Lists). AreNoted has_read xs lists) f i)
    (λ (n : ℕ). sym (none_found xs n us)) nothing_rises
