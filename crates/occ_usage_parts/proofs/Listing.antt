-- A place lies in a set of places exactly if it lies in one of those that the set is written as.
use Rattle.std.proofs.Common.{map, ◌≡◌, ℕ, ◌+◌, ◌≤◌, Bool, true, false, cond, sym, subst, ◌∙◌, refl, arith, inl, inr, List, [], ◌∷◌, ◌++◌, Option, Some, None, ap}
use Rattle.std.specs.Prelude.{ℤ, int_le, ◌-ℤ◌, unsigned_abs, ◌↔◌, ◌⊎◌, ◌||◌, IsTrue, if◌then◌else◌}
use Rattle.std.specs.List.{All, list_any}
use Rattle.std.specs.BTreeMap.{get, is_at}
use Rattle.std.specs.Map.{lookup}
use Rattle.std.specs.Cmp.{nat_cmp_total}
use Rattle.std.specs.Ordering.{is_eq, nat_cmp}
use Rattle.std.proofs.lemmas.Int.{ints}
use Rattle.std.proofs.lemmas.List.Elements.{All-head, All-tail}
use Rattle.std.proofs.lemmas.List.Folds.{list_any-append}
use Rattle.std.proofs.lemmas.Map.Lookups.{exact_unsigned}
use Rattle.std.proofs.lemmas.Map.Views.{All-found, tells_apart}
use Rattle.occ_types.specs.declared.interface.Places.{Places}
use Rattle.occ_types.specs.declared.interface.Places.TheVariants as places
use Rattle.occ_usage_parts.specs.Places.{holds, meet}
use Rattle.occ_usage_parts.specs.declared.place_set.PlaceSet.{PlaceSet}
use Rattle.occ_usage_parts.specs.inside.PlaceSets.{Has, IsSet, LiesAt, from_places, lies_from, place_at, places_of, run_of}
use Rattle.occ_usage_parts.proofs.Sets.{meet_exactly}

abbrev Entry : Type 0
Entry = ℕ × ℕ

left : (s t : Bool) → s ≡ true → (s || t) ≡ true
left true t p = refl
left false t p = cc

right : (s t : Bool) → t ≡ true → (s || t) ≡ true
right true t p = refl
right false t p = p

pub sides : (a b : Bool) → (a || b) ≡ true → (a ≡ true) ⊎ (b ≡ true)
sides true b e = inl refl
sides false b e = inr e

-- ---- the entries of a map

given_in : (f : Entry → Bool) (a b : ℕ) (es : List Entry) → lookup (is_at (nat_cmp a)) es ≡ Some b → f (a, b) ≡ true → list_any f es ≡ true
given_in f a b [] h k = cc
given_in f a b (e ∷ es) h k = by_test (is_eq (nat_cmp a e.0)) refl h (λ r. given_in f a b es r k) where
  one : (x y : ℕ) → Some x ≡ Some y → x ≡ y
  one x y p = cc

  by_test : (t : Bool) → is_eq (nat_cmp a e.0) ≡ t → cond t (Some e.1) (lookup (is_at (nat_cmp a)) es) ≡ Some b
      → (lookup (is_at (nat_cmp a)) es ≡ Some b → list_any f es ≡ true) → (f e || list_any f es) ≡ true
  by_test true p q rest =
      let i : a ≡ e.0 = tells_apart {R = nat_cmp} exact_unsigned a e.0 p in
      let j : b ≡ e.1 = sym (one e.1 b q) in
      left (f e) (list_any f es) (subst (λ (x : ℕ). f (x, e.1) ≡ true) i (subst (λ (y : ℕ). f (a, y) ≡ true) j k))
  by_test false p q rest = right (f e) (list_any f es) (rest q)

found_in : (P : Entry → Type 0) (f : Entry → Bool) (es : List Entry) → All P es → list_any f es ≡ true → (e : Entry) × P e × (f e ≡ true)
found_in P f [] all h = cc
found_in P f (e ∷ es) all h = by_test (f e) refl h (λ r. found_in P f es (All-tail P e es all) r) where
  by_test : (t : Bool) → f e ≡ t → (t || list_any f es) ≡ true → (list_any f es ≡ true → (e : Entry) × P e × (f e ≡ true)) → (e : Entry) × P e × (f e ≡ true)
  by_test true p q rest = (e, All-head P e es all, p)
  by_test false p q rest = rest q

-- ---- a run of numbers, as places

run_holds : (a b n : ℕ) (x : ℤ) → place_at n ≡ x → a ≤ n → n ≤ b → holds (run_of (a, b)) x ≡ true
run_holds a b n x e h k = grind (arith, ints)

number_in : (a b : ℕ) (x : ℤ) → a ≤ b → holds (run_of (a, b)) x ≡ true → (n : ℕ) × (place_at n ≡ x) × (a ≤ n) × (n ≤ b)
number_in a b x w h =
    let u : ℕ = unsigned_abs (x -ℤ place_at a) in
    (a + u, grind (arith, ints), omega arith, grind (arith, ints))

given : (s : PlaceSet) → IsSet s → (x : ℤ) → LiesAt s x → list_any (λ (e : Entry). holds (run_of e) x) s.runs.entries ≡ true
given s is x at =
    let lies = at.lies in
    given_in (λ (e : Entry). holds (run_of e) x) lies.first lies.last s.runs.entries lies.run
    (run_holds lies.first lies.last at.number x at.place lies.from lies.to)

found : (s : PlaceSet) → IsSet s → (x : ℤ) → list_any (λ (e : Entry). holds (run_of e) x) s.runs.entries ≡ true → LiesAt s x
found s is x h =
    let it = found_in (λ (e : Entry). get nat_cmp s.runs e.0 ≡ Some e.1) (λ (e : Entry). holds (run_of e) x) s.runs.entries (All-found nat_cmp_total s.runs is.0) h in
    let n = number_in it.0.0 it.0.1 x (is.1.forward it.0.0 it.0.1 it.1) it.2 in
    record { number = n.0; place = n.1; lies = record { first = it.0.0; last = it.0.1; run = it.1; from = n.2; to = n.3 } }

-- ---- the whole set

any_mapped : {X Y : Type 0} (f : X → Y) (g : Y → Bool) (xs : List X) → list_any g (map f xs) ≡ list_any (λ (x : X). g (f x)) xs
any_mapped f g [] = refl
any_mapped f g (x ∷ xs) = ap (λ (b : Bool). g (f x) || b) (any_mapped f g xs)

holds_all : (t : Bool) (x : ℤ) → list_any (λ (p : Places). holds p x) (if t then places.All ∷ [] else []) ≡ t
holds_all true x = refl
holds_all false x = refl

holds_from : (a : Option ℤ) (x : ℤ) → list_any (λ (p : Places). holds p x) (from_places a) ≡ lies_from a x
holds_from None x = refl
holds_from (Some a) x = by (int_le a x) where
  by : (b : Bool) → (b || false) ≡ b
  by true = refl
  by false = refl

written : (s : PlaceSet) (x : ℤ) → list_any (λ (p : Places). holds p x) (places_of s)
    ≡ (s.all || (list_any (λ (p : Places). holds p x) (from_places s.from) || list_any (λ (e : Entry). holds (run_of e) x) s.runs.entries))
written s x =
    list_any-append (λ (p : Places). holds p x) (if s.all then places.All ∷ [] else []) (from_places s.from ++ map run_of s.runs.entries)
    ∙ ap (λ (b : Bool). b || list_any (λ (p : Places). holds p x) (from_places s.from ++ map run_of s.runs.entries)) (holds_all s.all x)
    ∙ ap (λ (b : Bool). s.all || b)
    (list_any-append (λ (p : Places). holds p x) (from_places s.from) (map run_of s.runs.entries)
    ∙ ap (λ (b : Bool). list_any (λ (p : Places). holds p x) (from_places s.from) || b) (any_mapped run_of (λ (p : Places). holds p x) s.runs.entries))

pub listed : (s : PlaceSet) → IsSet s → (x : ℤ) → Has s x ↔ (list_any (λ (p : Places). holds p x) (places_of s) ≡ true)
listed s is x = (to, back) where
  one : Bool
  one = list_any (λ (p : Places). holds p x) (from_places s.from)

  other : Bool
  other = list_any (λ (e : Entry). holds (run_of e) x) s.runs.entries

  in_three : (s.all ≡ true) ⊎ ((one ≡ true) ⊎ (other ≡ true)) → (s.all || (one || other)) ≡ true
  in_three (inl a) = left s.all (one || other) a
  in_three (inr (inl b)) = right s.all (one || other) (left one other b)
  in_three (inr (inr c)) = right s.all (one || other) (right one other c)

  to : Has s x → list_any (λ (p : Places). holds p x) (places_of s) ≡ true
  to (inl a) = written s x ∙ in_three (inl a)
  to (inr (inl b)) = written s x ∙ in_three (inr (inl (holds_from s.from x ∙ b)))
  to (inr (inr c)) = written s x ∙ in_three (inr (inr (given s is x c)))

  back : list_any (λ (p : Places). holds p x) (places_of s) ≡ true → Has s x
  back h = elim (sides s.all (one || other) (sym (written s x) ∙ h)) [
    | inl a ↦ inl a
    | inr b ↦ elim (sides one other b) [
      | inl c ↦ inr (inl (sym (holds_from s.from x) ∙ c))
      | inr d ↦ inr (inr (found s is x d))
    ]
  ]

-- ---- what some of the sets that it is written as have in common with one

abbrev HasSome : List Places → Places → Type 0
HasSome ps q = (x : ℤ) × (list_any (λ (p : Places). holds p x) ps ≡ true) × (holds q x ≡ true)

any_meet_step : (p : Places) (ps : List Places) (q : Places) → (list_any (λ (p : Places). meet p q) ps ≡ true) ↔ HasSome ps q
    → ((meet p q || list_any (λ (p : Places). meet p q) ps) ≡ true) ↔ HasSome (p ∷ ps) q
any_meet_step p ps q rest = (to, back) where
  to : (meet p q || list_any (λ (p : Places). meet p q) ps) ≡ true → HasSome (p ∷ ps) q
  to h = elim (sides (meet p q) (list_any (λ (p : Places). meet p q) ps) h) [
    | inl a ↦ let m = (meet_exactly p q).0 a in (m.0, left (holds p m.0) (list_any (λ (p : Places). holds p m.0) ps) m.1, m.2)
    | inr b ↦ let m = rest.0 b in (m.0, right (holds p m.0) (list_any (λ (p : Places). holds p m.0) ps) m.1, m.2)
  ]

  back : HasSome (p ∷ ps) q → (meet p q || list_any (λ (p : Places). meet p q) ps) ≡ true
  back (x, h, k) = elim (sides (holds p x) (list_any (λ (p : Places). holds p x) ps) h) [
    | inl a ↦ left (meet p q) (list_any (λ (p : Places). meet p q) ps) ((meet_exactly p q).1 (x, a, k))
    | inr b ↦ right (meet p q) (list_any (λ (p : Places). meet p q) ps) (rest.1 (x, b, k))
  ]

any_meet : (ps : List Places) (q : Places) → (list_any (λ (p : Places). meet p q) ps ≡ true) ↔ HasSome ps q
any_meet [] q = ((λ h. absurd (no h)), (λ m. m.1)) where
  no : false ≡ true → ⊥
  no h = cc
any_meet (p ∷ ps) q = any_meet_step p ps q (any_meet ps q)

abbrev pub Meets : PlaceSet → Places → Bool
Meets s q = list_any (λ (p : Places). meet p q) (places_of s)

pub meets_written : (s : PlaceSet) → IsSet s → (q : Places) → (Meets s q ≡ true) ↔ ((x : ℤ) × Has s x × (holds q x ≡ true))
meets_written s is q = (
  (λ h. let m = (any_meet (places_of s) q).0 h in (m.0, (listed s is m.0).1 m.1, m.2)),
  (λ m. (any_meet (places_of s) q).1 (m.0, (listed s is m.0).0 m.1, m.2)),
)

both_true : (a b : Bool) → (a ≡ true → b ≡ true) → (b ≡ true → a ≡ true) → a ≡ b
both_true true true f g = refl
both_true true false f g = sym (f refl)
both_true false true f g = g refl
both_true false false f g = refl

pub meets_tested : (s : PlaceSet) → IsSet s → (q : Places) (b : Bool) → (IsTrue b ↔ ((x : ℤ) × Has s x × (holds q x ≡ true))) → b ≡ Meets s q
meets_tested s is q b law = both_true b (Meets s q) (λ t. (meets_written s is q).1 (law.0 t)) (λ h. law.1 ((meets_written s is q).0 h))

pub meets_more : (s t : PlaceSet) → IsSet s → IsSet t → (p : Places) → ((x : ℤ) → Has t x ↔ (Has s x ⊎ (holds p x ≡ true))) → (q : Places)
    → Meets t q ≡ (Meets s q || meet p q)
meets_more s t is it p law q = both_true (Meets t q) (Meets s q || meet p q) to back where
  to : Meets t q ≡ true → (Meets s q || meet p q) ≡ true
  to h =
      let m = (meets_written t it q).0 h in
      elim ((law m.0).0 m.1) [
        | inl old ↦ left (Meets s q) (meet p q) ((meets_written s is q).1 (m.0, old, m.2))
        | inr new ↦ right (Meets s q) (meet p q) ((meet_exactly p q).1 (m.0, new, m.2))
      ]

  back : (Meets s q || meet p q) ≡ true → Meets t q ≡ true
  back h = elim (sides (Meets s q) (meet p q) h) [
    | inl a ↦ let m = (meets_written s is q).0 a in (meets_written t it q).1 (m.0, (law m.0).1 (inl m.1), m.2)
    | inr b ↦ let m = (meet_exactly p q).0 b in (meets_written t it q).1 (m.0, (law m.0).1 (inr m.1), m.2)
  ]

pub meets_fewer : (s t : PlaceSet) → IsSet s → IsSet t → ((x : ℤ) → Has t x → Has s x) → (q : Places) → Meets s q ≡ false → Meets t q ≡ false
meets_fewer s t is it law q h = by_test (Meets t q) refl where
  by_test : (b : Bool) → Meets t q ≡ b → b ≡ false
  by_test false e = refl
  by_test true e =
      let m = (meets_written t it q).0 e in
      let k : Meets s q ≡ true = (meets_written s is q).1 (m.0, law m.0 m.1, m.2) in
      sym k ∙ h
