-- What a set of places is asked for: a place from one on, or one of a run.
use Rattle.std.proofs.Common.{◌≡◌, ℕ, ◌+◌, ◌≤◌, Bool, true, false, ap, sym, subst, ◌∙◌, refl, arith, inl, inr, Option, Some, None}
use Rattle.std.specs.Prelude.{ℤ, pos, ◌+ℤ◌, ◌-ℤ◌, unsigned_abs, ◌≤ℤ◌, int_le, negsuc, ◌↔◌, ◌⊎◌, ◌||◌, IsTrue, Result, Ok, Err, OnOk, OnErr}
use Rattle.std.specs.Int.{int_max}
use Rattle.std.specs.Option.{is_some}
use Rattle.std.proofs.lemmas.Int.{ints}
use Rattle.occ_types.specs.declared.interface.Places.{Places}
use Rattle.occ_types.specs.declared.interface.Places.TheVariants as places
use Rattle.occ_usage_parts.specs.Places.{holds}
use Rattle.occ_usage_parts.specs.declared.place_set.PlaceSet.{PlaceSet}
use Rattle.occ_usage_parts.specs.inside.PlaceSets.{Has, LiesAt, lies_from, place_at}
use Rattle.occ_usage_parts.specs.inside.Runs.{HasBetween, HasFrom, IsBetween, LiesIn, runs_of}

abbrev pub HasPlaceFrom : PlaceSet → ℤ → Type 0
HasPlaceFrom s first = (x : ℤ) × Has s x × (first ≤ℤ x)

abbrev pub HasPlaceBetween : PlaceSet → ℤ → ℤ → Type 0
HasPlaceBetween s first last = (x : ℤ) × Has s x × (first ≤ℤ x) × (x ≤ℤ last)

self : (x : ℤ) → x ≤ℤ x
self x = grind (arith, ints)

pub endless : (s : PlaceSet) (first : ℤ) → (s.all || is_some s.from) ≡ true → HasPlaceFrom s first
endless s first h = go s.all refl s.from refl h where
  go : (b : Bool) → s.all ≡ b → (o : Option ℤ) → s.from ≡ o → (b || is_some o) ≡ true → HasPlaceFrom s first
  go true e o f h = (first, inl e, self first)
  go false e None f h = cc
  go false e (Some a) f h = (int_max a first, inr (inl (subst (λ (o : Option ℤ). lies_from o (int_max a first) ≡ true) (sym f) (up a))), over a) where
    up : (a : ℤ) → int_le a (int_max a first) ≡ true
    up a = grind (arith, ints)

    over : (a : ℤ) → first ≤ℤ int_max a first
    over a = grind (arith, ints)

in_runs : (s : PlaceSet) (x : ℤ) → (s.all || is_some s.from) ≡ false → Has s x → LiesAt s x
in_runs s x h has = go s.all refl s.from refl h has where
  go : (b : Bool) → s.all ≡ b → (o : Option ℤ) → s.from ≡ o → (b || is_some o) ≡ false → Has s x → LiesAt s x
  go true e o f h has = cc
  go false e (Some a) f h has = cc
  go false e None f h (inl a) = absurd (let k : true ≡ false = sym a ∙ e in cc)
  go false e None f h (inr (inl b)) = absurd (let k : false ≡ true = subst (λ (o : Option ℤ). lies_from o x ≡ true) f b in cc)
  go false e None f h (inr (inr c)) = c

place_up : (n m : ℕ) → n ≤ m → place_at n ≤ℤ place_at m
place_up n m h = grind (arith, ints)

place_down : (n m : ℕ) → place_at n ≤ℤ place_at m → n ≤ m
place_down n m h = grind (arith, ints)

at_number : (s : PlaceSet) (m : ℕ) → LiesIn (runs_of s.runs) m → Has s (place_at m)
at_number s m lies = inr (inr (record { number = m; place = refl; lies = lies }))

pub runs_from : (s : PlaceSet) → (s.all || is_some s.from) ≡ false → (b : Bool) (n : ℕ) (first : ℤ) → place_at n ≡ first
    → (IsTrue b ↔ HasFrom (runs_of s.runs) n) → IsTrue b ↔ HasPlaceFrom s first
runs_from s h b n first e law = (to, back) where
  to : IsTrue b → HasPlaceFrom s first
  to t = let m = law.0 t in (place_at m.0, at_number s m.0 m.1, subst (λ (y : ℤ). y ≤ℤ place_at m.0) e (place_up n m.0 m.2))

  back : HasPlaceFrom s first → IsTrue b
  back (x, has, w) =
      let at = in_runs s x h has in
      let v : place_at n ≤ℤ place_at at.number = subst (λ (y : ℤ). place_at n ≤ℤ y) (sym at.place) (subst (λ (y : ℤ). y ≤ℤ x) (sym e) w) in
      law.1 (at.number, at.lies, place_down n at.number v)

-- ---- a run

pub reached : (s : PlaceSet) (first last : ℤ) → first ≤ℤ last → (s.all || lies_from s.from last) ≡ true → HasPlaceBetween s first last
reached s first last w h = go s.all refl (lies_from s.from last) refl h where
  go : (b : Bool) → s.all ≡ b → (c : Bool) → lies_from s.from last ≡ c → (b || c) ≡ true → HasPlaceBetween s first last
  go true e c f h = (last, inl e, w, self last)
  go false e true f h = (last, inr (inl f), w, self last)
  go false e false f h = cc

later : (o : Option ℤ) (x last : ℤ) → x ≤ℤ last → lies_from o x ≡ true → lies_from o last ≡ true
later None x last w h = h
later (Some a) x last w h = grind (arith, ints)

in_runs_to : (s : PlaceSet) (x last : ℤ) → x ≤ℤ last → (s.all || lies_from s.from last) ≡ false → Has s x → LiesAt s x
in_runs_to s x last w h has = go s.all refl (lies_from s.from last) refl h has where
  go : (b : Bool) → s.all ≡ b → (c : Bool) → lies_from s.from last ≡ c → (b || c) ≡ false → Has s x → LiesAt s x
  go true e c f h has = cc
  go false e true f h has = cc
  go false e false f h (inl a) = absurd (let k : true ≡ false = sym a ∙ e in cc)
  go false e false f h (inr (inl b)) = absurd (let k : true ≡ false = sym (later s.from x last w b) ∙ f in cc)
  go false e false f h (inr (inr c)) = c

place_more : (n m : ℕ) (first : ℤ) → place_at n ≡ first → place_at (n + m) ≡ first +ℤ pos m
place_more n m first e = grind (arith, ints)

pub runs_between : (s : PlaceSet) (n m : ℕ) (first : ℤ) → place_at n ≡ first → (s.all || lies_from s.from (first +ℤ pos m)) ≡ false → (b : Bool) (last : ℕ) → last ≡ n + m
    → (IsTrue b ↔ HasBetween (runs_of s.runs) n last) → IsTrue b ↔ HasPlaceBetween s first (first +ℤ pos m)
runs_between s n m first e h b last l law = (to, back) where
  end : place_at last ≡ first +ℤ pos m
  end = subst (λ (k : ℕ). place_at k ≡ first +ℤ pos m) (sym l) (place_more n m first e)

  to : IsTrue b → HasPlaceBetween s first (first +ℤ pos m)
  to t =
      let k = law.0 t in
      (place_at k.0, at_number s k.0 k.1, subst (λ (y : ℤ). y ≤ℤ place_at k.0) e (place_up n k.0 k.2.0), subst (λ (y : ℤ). place_at k.0 ≤ℤ y) end (place_up k.0 last k.2.1))

  back : HasPlaceBetween s first (first +ℤ pos m) → IsTrue b
  back (x, has, u, v) =
      let at = in_runs_to s x (first +ℤ pos m) v h has in
      let low : place_at n ≤ℤ place_at at.number = subst (λ (y : ℤ). place_at n ≤ℤ y) (sym at.place) (subst (λ (y : ℤ). y ≤ℤ x) (sym e) u) in
      let high : place_at at.number ≤ℤ place_at last = subst (λ (y : ℤ). y ≤ℤ place_at last) (sym at.place) (subst (λ (y : ℤ). x ≤ℤ y) (sym end) v) in
      law.1 (at.number, at.lies, (place_down n at.number low, place_down at.number last high))

-- ---- any place

above : (n : ℕ) → negsuc 9223372036854775807 ≤ℤ place_at n
above n = grind (arith, ints)

pub any_from_least : (s : PlaceSet) → ((x : ℤ) × Has s x) → HasPlaceFrom s (negsuc 9223372036854775807)
any_from_least s (x, has) = by has where
  by : Has s x → HasPlaceFrom s (negsuc 9223372036854775807)
  by (inl a) = (negsuc 9223372036854775807, inl a, self (negsuc 9223372036854775807))
  by (inr (inl b)) = (int_max x (negsuc 9223372036854775807), inr (inl (later s.from x (int_max x (negsuc 9223372036854775807)) (up x) b)), over x) where
    up : (a : ℤ) → a ≤ℤ int_max a (negsuc 9223372036854775807)
    up a = grind (arith, ints)

    over : (a : ℤ) → negsuc 9223372036854775807 ≤ℤ int_max a (negsuc 9223372036854775807)
    over a = grind (arith, ints)
  by (inr (inr c)) = (x, inr (inr c), subst (λ (y : ℤ). negsuc 9223372036854775807 ≤ℤ y) c.place (above c.number))

-- ---- what is put

between_holds : (n m y : ℕ) (first x : ℤ) → place_at n ≡ first → place_at y ≡ x → n ≤ y → y ≤ n + m → holds (places.Run first m) x ≡ true
between_holds n m y first x e f u v = grind (arith, ints)

number_of_run : (n m : ℕ) (first x : ℤ) → place_at n ≡ first → holds (places.Run first m) x ≡ true → (y : ℕ) × (place_at y ≡ x) × (n ≤ y) × (y ≤ n + m)
number_of_run n m first x e h = (n + unsigned_abs (x -ℤ first), grind (arith, ints), omega arith, grind (arith, ints))

pub run_put : (s t : PlaceSet) (n m l : ℕ) (first : ℤ) (p : Places) → p ≡ places.Run first m → place_at n ≡ first → l ≡ n + m → t.all ≡ s.all → t.from ≡ s.from
    → ((y : ℕ) → LiesIn (runs_of t.runs) y ↔ (LiesIn (runs_of s.runs) y ⊎ IsBetween n l y)) → (x : ℤ) → Has t x ↔ (Has s x ⊎ (holds p x ≡ true))
run_put s t n m l first p is e k all from law x = (to, back) where
  to : Has t x → Has s x ⊎ (holds p x ≡ true)
  to (inl a) = inl (inl (sym all ∙ a))
  to (inr (inl b)) = inl (inr (inl (subst (λ (o : Option ℤ). lies_from o x ≡ true) from b)))
  to (inr (inr c)) = elim ((law c.number).0 c.lies) [
    | inl old ↦ inl (inr (inr (record { number = c.number; place = c.place; lies = old })))
    | inr new ↦ inr (ap (λ (q : Places). holds q x) is ∙ between_holds n m c.number first x e c.place new.0 (subst (λ (z : ℕ). c.number ≤ z) k new.1))
  ]

  back : Has s x ⊎ (holds p x ≡ true) → Has t x
  back (inl (inl a)) = inl (all ∙ a)
  back (inl (inr (inl b))) = inr (inl (subst (λ (o : Option ℤ). lies_from o x ≡ true) (sym from) b))
  back (inl (inr (inr c))) = inr (inr (record { number = c.number; place = c.place; lies = (law c.number).1 (inl c.lies) }))
  back (inr h) =
      let y = number_of_run n m first x e (sym (ap (λ (q : Places). holds q x) is) ∙ h) in
      inr (inr (record { number = y.0; place = y.1; lies = (law y.0).1 (inr (y.2, subst (λ (z : ℕ). y.0 ≤ z) (sym k) y.3)) }))

pub run_lost : (s t : PlaceSet) → t.all ≡ s.all → t.from ≡ s.from → ((y : ℕ) → LiesIn (runs_of t.runs) y → LiesIn (runs_of s.runs) y) → (x : ℤ) → Has t x → Has s x
run_lost s t all from law x (inl a) = inl (sym all ∙ a)
run_lost s t all from law x (inr (inl b)) = inr (inl (subst (λ (o : Option ℤ). lies_from o x ≡ true) from b))
run_lost s t all from law x (inr (inr c)) = inr (inr (record { number = c.number; place = c.place; lies = law c.number c.lies }))

-- ---- results

pub on_ok : {A E : Type 0} (r : Result A E) {P Q : Type 0} → (P → Q) → OnOk r P → OnOk r Q
on_ok (Ok a) f h = f h
on_ok (Err e) f h = h

pub on_err : {A E : Type 0} (r : Result A E) {P Q : Type 0} → (P → Q) → OnErr r P → OnErr r Q
on_err (Ok a) f h = h
on_err (Err e) f h = f h
