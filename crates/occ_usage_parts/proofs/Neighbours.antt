-- Of runs that are apart the last one that begins at most at a place decides; and what joining one with those that it
-- adjoins leaves.
use Rattle.std.proofs.Common.{◌≡◌, ◌≢◌, ℕ, ◌+◌, ◌<◌, ◌≤◌, ap, sym, subst, ◌∙◌, refl, arith, inl, inr, Option, Some, None}
use Rattle.std.specs.Prelude.{◌↔◌, ◌⊎◌, IsSome, min, max, Result, Ok, Err, OnErr}
use Rattle.std.specs.BTreeMap.{BTreeMap, UpdatesBy, is_at}
use Rattle.std.specs.Map.{lookup}
use Rattle.std.specs.Ordering.{is_eq, nat_cmp}
use Rattle.std.proofs.lemmas.Bool.{cases_eq, cases_lt, cases_Bool}
use Rattle.std.proofs.lemmas.Map.Lookups.{exact_unsigned}
use Rattle.std.proofs.lemmas.Map.Views.{tells_apart}
use Rattle.occ_usage_parts.specs.inside.Runs.{Adjoins, AreRuns, Changes, HasBetween, HasFrom, IsBetween, IsFree, IsShort, LiesIn, Runs, runs_of}

-- ---- one place or two

one_value : (b d : ℕ) (o : Option ℕ) → o ≡ Some b → o ≡ Some d → b ≡ d
one_value b d o h k = cc

no_value : (b : ℕ) (o : Option ℕ) → o ≡ None → o ≡ Some b → ⊥
no_value b o h k = cc

some_is : (g : Runs) (c d : ℕ) → g c ≡ Some d → IsSome (g c)
some_is g c d e = subst (λ (o : Option ℕ). IsSome o) (sym e) refl

-- ---- the neighbour decides

-- the run behind which no other begins at most at the end
greatest_reaches : (g : Runs) → AreRuns g → (a b end : ℕ) → g a ≡ Some b → ((q : ℕ) → q ≤ end → IsSome (g q) → q ≤ a)
    → (c d : ℕ) → g c ≡ Some d → c ≤ end → d ≤ b
greatest_reaches g are a b end run greatest c d e w = elim (cases_eq c a) [
  | inl same ↦ let k : d ≡ b = one_value d b (g a) (ap g (sym same) ∙ e) run in omega arith
  | inr other ↦
      let l : c ≤ a = greatest c w (some_is g c d e) in
      let m : c < a = less c a l other in
      let n : (d + 1) < a = are.apart c d a b e run m in
      let f : a ≤ b = are.forward a b run in
      omega arith
] where
  less : (x y : ℕ) → x ≤ y → x ≢ y → x < y
  less x y l n = omega arith

pub decided : (g : Runs) → AreRuns g → (a b first last : ℕ) → first ≤ last → g a ≡ Some b → a ≤ last
    → ((q : ℕ) → q ≤ last → IsSome (g q) → q ≤ a) → (first ≤ b) ↔ HasBetween g first last
decided g are a b first last w run up greatest = (found, given) where
  found : first ≤ b → HasBetween g first last
  found l = elim (cases_lt first a) [
    | inl before ↦ (a, record { first = a; last = b; run = run; from = self a; to = are.forward a b run }, (omega arith, up))
    | inr behind ↦ (first, record { first = a; last = b; run = run; from = behind; to = l }, (self first, w))
  ] where
    self : (x : ℕ) → x ≤ x
    self x = omega arith

  given : HasBetween g first last → first ≤ b
  given (x, lies, (from, to)) =
      let c = lies.first in
      let d = lies.last in
      let f : c ≤ x = lies.from in
      let t : x ≤ d = lies.to in
      let u : c ≤ last = omega arith in
      let r : d ≤ b = greatest_reaches g are a b last run greatest c d lies.run u in
      omega arith

pub undecided : (g : Runs) (first last : ℕ) → ((q : ℕ) → q ≤ last → g q ≡ None) → HasBetween g first last → ⊥
undecided g first last none (x, lies, (from, to)) =
    let f : lies.first ≤ x = lies.from in
    let u : lies.first ≤ last = omega arith in
    no_value lies.last (g lies.first) (none lies.first u) lies.run

-- the run behind which no other begins
pub decided_from : (g : Runs) → AreRuns g → (a b first : ℕ) → g a ≡ Some b → ((q : ℕ) → IsSome (g q) → q ≤ a) → (first ≤ b) ↔ HasFrom g first
decided_from g are a b first run greatest = (found, given) where
  found : first ≤ b → HasFrom g first
  found l = (b, record { first = a; last = b; run = run; from = are.forward a b run; to = omega arith }, l)

  given : HasFrom g first → first ≤ b
  given (x, lies, w) =
      let t : x ≤ lies.last = lies.to in
      let r : lies.last ≤ b = greatest_reaches g are a b lies.first run (λ q u s. greatest q s) lies.first lies.last lies.run (omega arith) in
      omega arith

-- ---- the one that adjoins

pub none_adjoins : (g : Runs) (first last : ℕ) → ((q : ℕ) → q ≤ (last + 1) → g q ≡ None) → IsFree g first last
none_adjoins g first last none = record { before = λ c d e w. absurd (no_value d (g c) (none c w) e) }

pub none_adjoins_before : (g : Runs) → AreRuns g → (a b first last : ℕ) → g a ≡ Some b
    → ((q : ℕ) → q ≤ (last + 1) → IsSome (g q) → q ≤ a) → (b + 1) < first → IsFree g first last
none_adjoins_before g are a b first last run greatest l = record {
  before = λ c d e w.
      let r : d ≤ b = greatest_reaches g are a b (last + 1) run greatest c d e w in
      omega arith;
}

-- ---- a run less

was_there : (g h : Runs) (a : ℕ) → Changes g h a None → (c d : ℕ) → h c ≡ Some d → g c ≡ Some d
was_there g h a less c d e = elim (cases_eq c a) [
  | inl same ↦ absurd (no_value d (h a) less.at (ap h (sym same) ∙ e))
  | inr other ↦ sym (less.others c other) ∙ e
]

pub runs_less : (g h : Runs) (a : ℕ) → AreRuns g → Changes g h a None → AreRuns h
runs_less g h a are less = record {
  forward = λ c d e. are.forward c d (was_there g h a less c d e);
  apart = λ c d x y e f. are.apart c d x y (was_there g h a less c d e) (was_there g h a less x y f);
  short_first = λ c d e. are.short_first c d (was_there g h a less c d e);
  short_last = λ c d e. are.short_last c d (was_there g h a less c d e);
}

pub lies_less : (g h : Runs) (a : ℕ) → Changes g h a None → (x : ℕ) → LiesIn h x → LiesIn g x
lies_less g h a less x lies = record { first = lies.first; last = lies.last; run = was_there g h a less lies.first lies.last lies.run; from = lies.from; to = lies.to }

-- what is taken out is put to the places
pub joined_less : (g h : Runs) (a b first last : ℕ) → AreRuns g → first ≤ last → Adjoins g first last a b → Changes g h a None
    → (x : ℕ) → (LiesIn h x ⊎ IsBetween (min first a) (max last b) x) ↔ (LiesIn g x ⊎ IsBetween first last x)
joined_less g h a b first last are w adjoins less x = (to, back) where
  f : a ≤ b
  f = are.forward a b adjoins.run

  side : (p q r s y : ℕ) → p ≤ q → r ≤ s → r ≤ (q + 1) → p ≤ (s + 1) → min p r ≤ y → y ≤ max q s
      → (IsBetween r s y) ⊎ (IsBetween p q y)
  side p q r s y i j k l m n = elim (cases_lt y p) [
    | inl u ↦ inl (omega arith, omega arith)
    | inr u ↦ elim (cases_lt q y) [
      | inl v ↦ inl (omega arith, omega arith)
      | inr v ↦ inr (omega arith, omega arith)
    ]
  ]

  to : (LiesIn h x ⊎ IsBetween (min first a) (max last b) x) → (LiesIn g x ⊎ IsBetween first last x)
  to (inl lies) = inl (record { first = lies.first; last = lies.last; run = was_there g h a less lies.first lies.last lies.run; from = lies.from; to = lies.to })
  to (inr (m, n)) = elim (side first last a b x w f adjoins.from adjoins.to m n) [
    | inl (m, n) ↦ inl (record { first = a; last = b; run = adjoins.run; from = m; to = n })
    | inr here ↦ inr here
  ]

  low : (p q y : ℕ) → p ≤ y → min p q ≤ y
  low p q y l = omega arith

  low_other : (p q y : ℕ) → q ≤ y → min p q ≤ y
  low_other p q y l = omega arith

  high : (p q y : ℕ) → y ≤ p → y ≤ max p q
  high p q y l = omega arith

  high_other : (p q y : ℕ) → y ≤ q → y ≤ max p q
  high_other p q y l = omega arith

  back : (LiesIn g x ⊎ IsBetween first last x) → (LiesIn h x ⊎ IsBetween (min first a) (max last b) x)
  back (inl lies) = elim (cases_eq lies.first a) [
    | inl same ↦
        let k : lies.last ≡ b = one_value lies.last b (g a) (ap g (sym same) ∙ lies.run) adjoins.run in
        inr (low_other first a x (subst (λ (y : ℕ). y ≤ x) same lies.from), high_other last b x (subst (λ (y : ℕ). x ≤ y) k lies.to))
    | inr other ↦ inl (record { first = lies.first; last = lies.last; run = less.others lies.first other ∙ lies.run; from = lies.from; to = lies.to })
  ]
  back (inr (m, n)) = inr (low first a x m, high last b x n)

-- ---- a run more

is_or_was : (g h : Runs) (a b : ℕ) → Changes g h a (Some b) → (c d : ℕ) → h c ≡ Some d → ((c ≡ a) × (d ≡ b)) ⊎ ((c ≢ a) × (g c ≡ Some d))
is_or_was g h a b more c d e = elim (cases_eq c a) [
  | inl same ↦ inl (same, one_value d b (h a) (ap h (sym same) ∙ e) more.at)
  | inr other ↦ inr (other, sym (more.others c other) ∙ e)
]

pub runs_more : (g h : Runs) (first last : ℕ) → AreRuns g → first ≤ last → IsShort first → IsShort last → IsFree g first last
    → Changes g h first (Some last) → AreRuns h
runs_more g h first last are w sf sl free more = record {
  forward = λ c d e. forward c d (is_or_was g h first last more c d e);
  apart = λ a b c d e f l. apart a b c d (is_or_was g h first last more a b e) (is_or_was g h first last more c d f) l;
  short_first = λ c d e. elim (is_or_was g h first last more c d e) [
    | inl new ↦ subst (λ (y : ℕ). IsShort y) (sym new.0) sf
    | inr old ↦ are.short_first c d old.1
  ];
  short_last = λ c d e. elim (is_or_was g h first last more c d e) [
    | inl new ↦ subst (λ (y : ℕ). IsShort y) (sym new.1) sl
    | inr old ↦ are.short_last c d old.1
  ];
} where
  forward : (c d : ℕ) → ((c ≡ first) × (d ≡ last)) ⊎ ((c ≢ first) × (g c ≡ Some d)) → c ≤ d
  forward c d (inl (m, n)) = omega arith
  forward c d (inr (m, n)) = are.forward c d n

  apart : (a b c d : ℕ) → ((a ≡ first) × (b ≡ last)) ⊎ ((a ≢ first) × (g a ≡ Some b)) → ((c ≡ first) × (d ≡ last)) ⊎ ((c ≢ first) × (g c ≡ Some d))
      → a < c → (b + 1) < c
  apart a b c d (inl (m, n)) (inl (p, q)) l = absurd (omega arith)
  apart a b c d (inr (m, n)) (inr (p, q)) l = are.apart a b c d n q l
  apart a b c d (inr (m, n)) (inl (p, q)) l =
      let u : a ≤ (last + 1) = omega arith in
      let v : (b + 1) < first = free.before a b n u in
      omega arith
  apart a b c d (inl (m, n)) (inr (p, q)) l = elim (cases_lt (last + 1) c) [
    | inl u ↦ omega arith
    | inr u ↦
        let v : d + 1 < first = free.before c d q u in
        let k : c ≤ d = are.forward c d q in
        absurd (omega arith)
  ]

pub places_more : (g h : Runs) (first last : ℕ) → AreRuns g → first ≤ last → IsFree g first last → Changes g h first (Some last)
    → (x : ℕ) → LiesIn h x ↔ (LiesIn g x ⊎ IsBetween first last x)
places_more g h first last are w free more x = (to, back) where
  to : LiesIn h x → (LiesIn g x ⊎ IsBetween first last x)
  to lies = elim (is_or_was g h first last more lies.first lies.last lies.run) [
    | inl new ↦ inr (subst (λ (y : ℕ). y ≤ x) new.0 lies.from, subst (λ (y : ℕ). x ≤ y) new.1 lies.to)
    | inr old ↦ inl (record { first = lies.first; last = lies.last; run = old.1; from = lies.from; to = lies.to })
  ]

  back : (LiesIn g x ⊎ IsBetween first last x) → LiesIn h x
  back (inr (m, n)) = record { first = first; last = last; run = more.at; from = m; to = n }
  back (inl lies) = elim (cases_eq lies.first first) [
    | inl same ↦
        let k : g first ≡ Some lies.last = ap g (sym same) ∙ lies.run in
        let u : first ≤ (last + 1) = omega arith in
        let v : (lies.last + 1) < first = free.before first lies.last k u in
        let f : first ≤ lies.last = are.forward first lies.last k in
        absurd (omega arith)
    | inr other ↦ record { first = lies.first; last = lies.last; run = more.others lies.first other ∙ lies.run; from = lies.from; to = lies.to }
  ]

-- ---- in a map

pub changes_of : (m n : BTreeMap ℕ ℕ) (a : ℕ) (w : Option ℕ) → UpdatesBy nat_cmp (nat_cmp a) m n w → Changes (runs_of m) (runs_of n) a w
changes_of m n a w u = record {
  at = u.1;
  others = λ q ne. elim (cases_Bool (is_eq (nat_cmp a q))) [
    | inl e ↦ absurd (ne (sym (tells_apart {R = nat_cmp} exact_unsigned a q e)))
    | inr e ↦ u.2 q e
  ];
}

pub runs_same : (m n : BTreeMap ℕ ℕ) → n.entries ≡ m.entries → AreRuns (runs_of m) → AreRuns (runs_of n)
runs_same m n e are =
    let same : (q : ℕ) → runs_of n q ≡ runs_of m q = λ q. ap (λ es. lookup (is_at (nat_cmp q)) es) e in
    record {
      forward = λ a b x. are.forward a b (sym (same a) ∙ x);
      apart = λ a b c d x y. are.apart a b c d (sym (same a) ∙ x) (sym (same c) ∙ y);
      short_first = λ a b x. are.short_first a b (sym (same a) ∙ x);
      short_last = λ a b x. are.short_last a b (sym (same a) ∙ x);
    }

-- one round of joining
pub joined_round : (g h : Runs) (a b first last f l : ℕ) → AreRuns g → first ≤ last → Adjoins g first last a b → Changes g h a None
    → f ≡ min first a → l ≡ max last b → (P : ℕ → Type 0) → ((x : ℕ) → (LiesIn g x ⊎ IsBetween first last x) ↔ P x)
    → (x : ℕ) → (LiesIn h x ⊎ IsBetween f l x) ↔ P x
joined_round g h a b first last f l are w adjoins less e k P before x =
    let step : (LiesIn h x ⊎ IsBetween (min first a) (max last b) x) ↔ (LiesIn g x ⊎ IsBetween first last x) = joined_less g h a b first last are w adjoins less x in
    let here : (LiesIn h x ⊎ IsBetween f l x) ↔ (LiesIn g x ⊎ IsBetween first last x)
    = subst (λ (p : ℕ). (LiesIn h x ⊎ IsBetween p l x) ↔ (LiesIn g x ⊎ IsBetween first last x)) (sym e)
    (subst (λ (q : ℕ). (LiesIn h x ⊎ IsBetween (min first a) q x) ↔ (LiesIn g x ⊎ IsBetween first last x)) (sym k) step) in
    ((λ m. (before x).0 (here.0 m)), (λ m. here.1 ((before x).1 m)))

-- a run more, where those before it tell what lay in them
pub places_end : (g h : Runs) (first last : ℕ) → AreRuns g → first ≤ last → IsFree g first last → Changes g h first (Some last)
    → (P : ℕ → Type 0) → ((x : ℕ) → (LiesIn g x ⊎ IsBetween first last x) ↔ P x) → (x : ℕ) → LiesIn h x ↔ P x
places_end g h first last are w free more P before x =
    let step : LiesIn h x ↔ (LiesIn g x ⊎ IsBetween first last x) = places_more g h first last are w free more x in
    ((λ m. (before x).0 (step.0 m)), (λ m. step.1 ((before x).1 m)))

pub lies_same : (m n : BTreeMap ℕ ℕ) → n.entries ≡ m.entries → (x : ℕ) → LiesIn (runs_of n) x → LiesIn (runs_of m) x
lies_same m n e x lies =
    record { first = lies.first; last = lies.last; run = sym (ap (λ es. lookup (is_at (nat_cmp lies.first)) es) e) ∙ lies.run; from = lies.from; to = lies.to }

pub given_err : {A E : Type 0} (r : Result A E) {P : Type 0} → P → OnErr r P
given_err (Ok a) p = tt
given_err (Err e) p = p
