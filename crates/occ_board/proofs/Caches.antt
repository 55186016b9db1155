-- The inputs that are cached, where one comes in place of that of its unit.
use Rattle.std.proofs.Common.{◌≡◌, ◌∙◌, ◌++◌, ◌<◌, ◌⊎◌, inl, inr, Bool, true, false, cond, ℕ, zero, suc, List, [], ◌∷◌, length, Option, Some, None, refl, sym, ap, arith, if◌then◌else◌}
use Rattle.std.proofs.lemmas.Map.Text.{is_eq-slice_cmp}
use Rattle.std.proofs.lemmas.Slice.Eq.{bytes_eq-Decides}
use Rattle.std.specs.BTreeMap.{BTreeMap, get}
use Rattle.std.specs.List.{slice_get}
use Rattle.std.specs.Prelude.{slice_set, take}
use Rattle.std.specs.Option.{option_and_then, option_map}
use Rattle.std.specs.Ordering.{is_eq}
use Rattle.std.specs.Str.{bytes_eq}
use Rattle.occ_board.specs.Machine.{with_cached}
use Rattle.occ_board.specs.Done.{cached_of}
use Rattle.occ_board.specs.inside.Verified.{shown_of}
use Rattle.occ_board.specs.inside.Holding.{AreIndices, AreSingle, index_in}
use Rattle.occ_check.specs.Diagnostics.{interface_of}
use Rattle.occ_check.specs.Input.{Input}
use Rattle.occ_project.specs.Reads.{name_cmp}

pub cached_within : (js : List Input) (u : List ℕ) (p : ℕ) → index_in js u ≡ Some p → p < length js
cached_within [] u p e = absurd cc
cached_within (j ∷ js) u p e = by (bytes_eq j.unit u) (index_in js u) (λ k. cached_within js u k) e where
  by : (b : Bool) (o : Option ℕ) → ((k : ℕ) → o ≡ Some k → k < length js) → (if b then Some 0 else option_map suc o) ≡ Some p → p < length (j ∷ js)
  by true o f h = let zero_is : 0 ≡ p = cc in omega (arith, zero_is)
  by false None f h = absurd cc
  by false (Some k) f h = let at : suc k ≡ p = cc in let less = f k refl in omega (arith, at, less)

pub cached_at : (js : List Input) (i : Input) (p : ℕ) → index_in js i.unit ≡ Some p → slice_set js p i ≡ with_cached js i
cached_at [] i p e = absurd cc
cached_at (j ∷ js) i p e = by (bytes_eq j.unit i.unit) (index_in js i.unit) (λ k. cached_at js i k) e where
  by : (b : Bool) (o : Option ℕ) → ((k : ℕ) → o ≡ Some k → slice_set js k i ≡ with_cached js i) → (if b then Some 0 else option_map suc o) ≡ Some p → slice_set (j ∷ js) p i ≡ (if b then i ∷ js else j ∷ with_cached js i)
  by true o f h = let zero_is : 0 ≡ p = cc in ap (λ (n : ℕ). slice_set (j ∷ js) n i) (sym zero_is)
  by false None f h = absurd cc
  by false (Some k) f h = let at : suc k ≡ p = cc in ap (λ (n : ℕ). slice_set (j ∷ js) n i) (sym at) ∙ ap (λ (xs : List Input). j ∷ xs) (f k refl)

pub cached_last : (js : List Input) (i : Input) → index_in js i.unit ≡ None → js ++ i ∷ [] ≡ with_cached js i
cached_last [] i e = refl
cached_last (j ∷ js) i e = by (bytes_eq j.unit i.unit) (index_in js i.unit) (cached_last js i) e where
  by : (b : Bool) (o : Option ℕ) → (o ≡ None → js ++ i ∷ [] ≡ with_cached js i) → (if b then Some 0 else option_map suc o) ≡ None → (j ∷ js) ++ i ∷ [] ≡ (if b then i ∷ js else j ∷ with_cached js i)
  by true o f h = absurd cc
  by false None f h = ap (λ (xs : List Input). j ∷ xs) (f refl)
  by false (Some k) f h = absurd cc

pub set_there : (js : List Input) (i : Input) (p : ℕ) → p < length js → slice_get (slice_set js p i) p ≡ Some i
set_there [] i p lt = absurd (omega (arith, lt))
set_there (j ∷ js) i zero lt = refl
set_there (j ∷ js) i (suc p) lt = set_there js i p (omega (arith, lt))

pub last_there : (js : List Input) (i : Input) → slice_get (js ++ i ∷ []) (length js) ≡ Some i
last_there [] i = refl
last_there (j ∷ js) i = last_there js i

pub all_but_last : {X : Type 0} (js : List X) (i : X) (n : ℕ) → n ≡ length js → take n (js ++ i ∷ []) ≡ js
all_but_last [] i zero e = refl
all_but_last [] i (suc n) e = absurd (omega (arith, e))
all_but_last (j ∷ js) i zero e = absurd (omega (arith, e))
all_but_last {X} (j ∷ js) i (suc n) e = ap (λ (is : List X). j ∷ is) (all_but_last js i n (omega (arith, e)))

-- what is cached of a unit stands at its place
following : (j : Input) (js : List Input) (o : Option ℕ) → option_and_then (slice_get (j ∷ js)) (option_map suc o) ≡ option_and_then (slice_get js) o
following j js None = refl
following j js (Some p) = refl

one_of : (j : Input) (js : List Input) (found : Option Input) (b : Bool) (o : Option ℕ) → option_and_then (slice_get js) o ≡ found → option_and_then (slice_get (j ∷ js)) (if b then Some 0 else option_map suc o) ≡ cond b (Some j) found
one_of j js found true o e = refl
one_of j js found false o e = following j js o ∙ e

pub cached_there : (js : List Input) (u : List ℕ) → option_and_then (slice_get js) (index_in js u) ≡ cached_of js u
cached_there [] u = refl
cached_there (j ∷ js) u = one_of j js (cached_of js u) (bytes_eq j.unit u) (index_in js u) (cached_there js u)

-- where one comes in place of another all have their indices
pub indices_stay : (js : List Input) (i : Input) (u : List ℕ) (p : ℕ) → index_in js i.unit ≡ Some p → index_in (with_cached js i) u ≡ index_in js u
indices_stay [] i u p e = absurd cc
indices_stay (j ∷ js) i u p e = by (bytes_eq j.unit i.unit) refl (index_in js i.unit) e (λ k q. indices_stay js i u k q) where
  by : (b : Bool) → bytes_eq j.unit i.unit ≡ b → (o : Option ℕ) → (if b then Some 0 else option_map suc o) ≡ Some p → ((k : ℕ) → o ≡ Some k → index_in (with_cached js i) u ≡ index_in js u)
      → index_in (if b then i ∷ js else j ∷ with_cached js i) u ≡ index_in (j ∷ js) u
  by true h o k rest =
      let same : j.unit ≡ i.unit = (bytes_eq-Decides j.unit i.unit).0 h in
      ap (λ (n : List ℕ). if bytes_eq n u then Some 0 else option_map suc (index_in js u)) (sym same)
  by false h None k rest = absurd cc
  by false h (Some q) k rest = ap (λ (o : Option ℕ). if bytes_eq j.unit u then Some 0 else option_map suc o) (rest q refl)

-- and the first of a unit has the last
alone : (b : Bool) → (if b then Some 0 else option_map suc None) ≡ cond b (Some 0) None
alone true = refl
alone false = refl

pub index_more : (js : List Input) (i : Input) (u : List ℕ) → index_in js i.unit ≡ None → index_in (js ++ i ∷ []) u ≡ cond (bytes_eq i.unit u) (Some (length js)) (index_in js u)
index_more [] i u e = alone (bytes_eq i.unit u)
index_more (j ∷ js) i u e = by (bytes_eq j.unit i.unit) refl (index_in js i.unit) refl e (λ k. index_more js i u k) where
  mixed : (b c : Bool) → (b ≡ true → c ≡ true → ⊥) → (if b then Some 0 else option_map suc (cond c (Some (length js)) (index_in js u))) ≡ cond c (Some (suc (length js))) (if b then Some 0 else option_map suc (index_in js u))
  mixed true true f = absurd (f refl refl)
  mixed true false f = refl
  mixed false true f = refl
  mixed false false f = refl

  apart : bytes_eq j.unit i.unit ≡ false → bytes_eq j.unit u ≡ true → bytes_eq i.unit u ≡ true → ⊥
  apart h a b =
      let one : j.unit ≡ u = (bytes_eq-Decides j.unit u).0 a in
      let other : i.unit ≡ u = (bytes_eq-Decides i.unit u).0 b in
      let same : bytes_eq j.unit i.unit ≡ true = (bytes_eq-Decides j.unit i.unit).1 (one ∙ sym other) in
      cc (same, h)

  by : (b : Bool) → bytes_eq j.unit i.unit ≡ b → (o : Option ℕ) → index_in js i.unit ≡ o → (if b then Some 0 else option_map suc o) ≡ None
      → (index_in js i.unit ≡ None → index_in (js ++ i ∷ []) u ≡ cond (bytes_eq i.unit u) (Some (length js)) (index_in js u))
      → (if bytes_eq j.unit u then Some 0 else option_map suc (index_in (js ++ i ∷ []) u)) ≡ cond (bytes_eq i.unit u) (Some (suc (length js))) (if bytes_eq j.unit u then Some 0 else option_map suc (index_in js u))
  by true h o q n rest = absurd cc
  by false h (Some k) q n rest = absurd cc
  by false h None q n rest = ap (λ (o : Option ℕ). if bytes_eq j.unit u then Some 0 else option_map suc o) (rest q) ∙ mixed (bytes_eq j.unit u) (bytes_eq i.unit u) (apart h)

-- the indices after a first outcome
pub indices_with : (indices more : BTreeMap (List ℕ) ℕ) (js next : List Input) (i : Input) (unit : List ℕ) (n : ℕ) → AreIndices indices js → index_in js i.unit ≡ None → next ≡ js ++ i ∷ [] → unit ≡ i.unit → n ≡ length js
    → ((u : List ℕ) → get name_cmp more u ≡ cond (is_eq (name_cmp unit u)) (Some n) (get name_cmp indices u)) → AreIndices more next
indices_with indices more js next i unit n are none e s l reported u =
    reported u
    ∙ ap (λ (b : Bool). cond b (Some n) (get name_cmp indices u)) (is_eq-slice_cmp unit u ∙ ap (λ (x : List ℕ). bytes_eq x u) s)
    ∙ ap (λ (m : ℕ). cond (bytes_eq i.unit u) (Some m) (get name_cmp indices u)) l
    ∙ ap (cond (bytes_eq i.unit u) (Some (length js))) (are u)
    ∙ sym (index_more js i u none)
    ∙ sym (ap (λ (is : List Input). index_in is u) e)

-- what stands at an index is one
pub same_there : (js : List Input) (p : ℕ) (i j : Input) → slice_get js p ≡ Some i → slice_get js p ≡ Some j → i ≡ j
same_there js p i j e f = one i j (sym e ∙ f) where
  one : (a b : Input) → Some a ≡ Some b → a ≡ b
  one a b s = cc

-- what is found where one was put, or one more is, is that or was there
set_or : (js : List Input) (i : Input) (p q : ℕ) (k : Input) → slice_get (slice_set js p i) q ≡ Some k → ((p ≡ q) × (i ≡ k)) ⊎ (slice_get js q ≡ Some k)
set_or [] i p q k h = inr h
set_or (j ∷ js) i zero zero k h = inl (refl, one i k h) where
  one : (a b : Input) → Some a ≡ Some b → a ≡ b
  one a b s = cc
set_or (j ∷ js) i zero (suc q) k h = inr h
set_or (j ∷ js) i (suc p) zero k h = inr h
set_or (j ∷ js) i (suc p) (suc q) k h = elim (set_or js i p q k h) [
  | inl e ↦ inl (ap suc e.0, e.1)
  | inr e ↦ inr e
]

last_or : (js : List Input) (i : Input) (q : ℕ) (k : Input) → slice_get (js ++ i ∷ []) q ≡ Some k → ((q ≡ length js) × (i ≡ k)) ⊎ (slice_get js q ≡ Some k)
last_or [] i zero k h = inl (refl, one i k h) where
  one : (a b : Input) → Some a ≡ Some b → a ≡ b
  one a b s = cc
last_or [] i (suc q) k h = inr h
last_or (j ∷ js) i zero k h = inr h
last_or (j ∷ js) i (suc q) k h = elim (last_or js i q k h) [
  | inl e ↦ inl (ap suc e.0, e.1)
  | inr e ↦ inr e
]

-- none of a unit stands twice, where one comes in place of that of its unit, or is the first of its unit
pub single_set : (js : List Input) (i : Input) (p : ℕ) → index_in js i.unit ≡ Some p → AreSingle js → AreSingle (slice_set js p i)
single_set js i p e single q k got = ap (λ (is : List Input). index_in is k.unit) (cached_at js i p e) ∙ indices_stay js i k.unit p e ∙ elim (set_or js i p q k got) [
  | inl h ↦ ap (λ (x : Input). index_in js x.unit) (sym h.1) ∙ e ∙ ap (λ (n : ℕ). Some n) h.0
  | inr h ↦ single q k h
]

pub single_last : (js : List Input) (i : Input) → index_in js i.unit ≡ None → AreSingle js → AreSingle (js ++ i ∷ [])
single_last js i none single q k got = index_more js i k.unit none ∙ elim (last_or js i q k got) [
  | inl h ↦
      let same : bytes_eq i.unit k.unit ≡ true = (bytes_eq-Decides i.unit k.unit).1 (ap (λ (x : Input). x.unit) h.1) in
      ap (λ (b : Bool). cond b (Some (length js)) (index_in js k.unit)) same ∙ ap (λ (n : ℕ). Some n) (sym h.0)
  | inr h ↦
      let there : index_in js k.unit ≡ Some q = single q k h in
      ap (λ (b : Bool). cond b (Some (length js)) (index_in js k.unit)) (other (bytes_eq i.unit k.unit) (λ t. apart ((bytes_eq-Decides i.unit k.unit).0 t) there)) ∙ there
] where
  other : (b : Bool) → (b ≡ true → ⊥) → b ≡ false
  other true f = absurd (f refl)
  other false f = refl

  apart : i.unit ≡ k.unit → index_in js k.unit ≡ Some q → ⊥
  apart same there =
      let gone : index_in js k.unit ≡ None = ap (index_in js) (sym same) ∙ none in
      cc (gone, there)

-- so what stands at an index is what is cached of its unit
pub index_single : (js : List Input) (u : List ℕ) (p : ℕ) (i : Input) → AreSingle js → slice_get js p ≡ Some i → bytes_eq i.unit u ≡ true → index_in js u ≡ Some p
index_single js u p i single got same = ap (index_in js) (sym ((bytes_eq-Decides i.unit u).0 same)) ∙ single p i got

-- what it shows
pub shown_there : (js : List Input) (u : List ℕ) (p : ℕ) (i : Input) → index_in js u ≡ Some p → slice_get js p ≡ Some i → shown_of js u ≡ interface_of i
shown_there js u p i at got = ap (option_and_then interface_of) (sym (cached_there js u) ∙ ap (option_and_then (slice_get js)) at ∙ got)

pub none_shown : (js : List Input) (u : List ℕ) → index_in js u ≡ None → shown_of js u ≡ None
none_shown js u at = ap (option_and_then interface_of) (sym (cached_there js u) ∙ ap (option_and_then (slice_get js)) at)
