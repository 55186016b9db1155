-- What is remembered of types stays true.
use Rattle.std.proofs.Common.{◌≡◌, ◌⊎◌, ◌≤◌, ◌<◌, ◌+◌, ◌-◌, ℕ, zero, suc, List, [], ◌∷◌, ◌++◌, length, Option, Some, None, MatchOption, slice_get, slice_set, arith, ap, sym, ◌∙◌, refl, inl, inr, subst, length-append}
use Rattle.std.proofs.lemmas.Option.{slice_get_within}
use Rattle.occ_types.specs.declared.interface.Formal.{Formal}
use Rattle.occ_types.specs.declared.types.OccType.{OccType}
use Rattle.occ_scope.specs.Elements.{formal_type, formal_types, type_at, type_of}
use Rattle.occ_scope.specs.declared.meaning.Meaning.{Meaning}
use Rattle.occ_scope.specs.inside.Alike.{AreAlike, IsAlike}

-- ---- lists by places

front : {X : Type 0} (xs : List X) (x : X) (n : ℕ) → n < length xs → slice_get (xs ++ x ∷ []) n ≡ slice_get xs n
front [] x n h = absurd (omega (arith, h))
front (y ∷ ys) x zero h = refl
front (y ∷ ys) x (suc n) h = front ys x n (omega (arith, h))

last_or : (xs : List ℕ) (y n other : ℕ) → slice_get (xs ++ y ∷ []) n ≡ Some other → ((n ≡ length xs) × (other ≡ y)) ⊎ (slice_get xs n ≡ Some other)
last_or [] y zero other is = inl (refl, sym (one y other is)) where
  one : (a b : ℕ) → Some a ≡ Some b → a ≡ b
  one a b s = cc
last_or [] y (suc n) other is = absurd cc
last_or (x ∷ xs) y zero other is = inr is
last_or (x ∷ xs) y (suc n) other is = elim (last_or xs y n other is) [
  | inl e ↦ inl (ap suc e.0, e.1)
  | inr e ↦ inr e
]

set_or : (xs : List ℕ) (k y n other : ℕ) → slice_get (slice_set xs k y) n ≡ Some other → ((n ≡ k) × (other ≡ y)) ⊎ (slice_get xs n ≡ Some other)
set_or [] k y n other is = inr is
set_or (x ∷ xs) zero y zero other is = inl (refl, sym (one y other is)) where
  one : (a b : ℕ) → Some a ≡ Some b → a ≡ b
  one a b s = cc
set_or (x ∷ xs) zero y (suc n) other is = inr is
set_or (x ∷ xs) (suc k) y zero other is = inr is
set_or (x ∷ xs) (suc k) y (suc n) other is = elim (set_or xs k y n other is) [
  | inl e ↦ inl (ap suc e.0, e.1)
  | inr e ↦ inr e
]

-- ---- what is remembered

pub none_alike : (meanings : List Meaning) → AreAlike meanings []
none_alike meanings zero other is = absurd cc
none_alike meanings (suc n) other is = absurd cc

front_type : (meanings : List Meaning) (last : Meaning) (n : ℕ) → n < length meanings → type_at (meanings ++ last ∷ []) n ≡ type_at meanings n
front_type meanings last n h = ap type_of (front meanings last n h)

-- with one specification more
pub alike_under : (meanings : List Meaning) (last : Meaning) (alike : List ℕ) → length alike ≤ length meanings → AreAlike meanings alike → AreAlike (meanings ++ last ∷ []) alike
alike_under meanings last alike within same n other is =
    let h : n < length alike = slice_get_within alike n other is in
    let s = same n other is in
    (s.0, front_type meanings last other (omega (arith, h, within, s.0)) ∙ s.1 ∙ sym (front_type meanings last n (omega (arith, h, within))))

-- without the last
pub alike_without : (meanings : List Meaning) (last : Meaning) (alike : List ℕ) → length alike ≤ length meanings → AreAlike (meanings ++ last ∷ []) alike → AreAlike meanings alike
alike_without meanings last alike within same n other is =
    let h : n < length alike = slice_get_within alike n other is in
    let s = same n other is in
    (s.0, sym (front_type meanings last other (omega (arith, h, within, s.0))) ∙ s.1 ∙ front_type meanings last n (omega (arith, h, within)))

pub alike_front : (meanings : List Meaning) (alike : List ℕ) (last : ℕ) → AreAlike meanings (alike ++ last ∷ []) → AreAlike meanings alike
alike_front meanings alike last same n other is = same n other (front alike last n (slice_get_within alike n other is) ∙ is)

-- one more is of its own type
pub alike_itself : (meanings : List Meaning) (alike : List ℕ) → AreAlike meanings alike → AreAlike meanings (alike ++ length alike ∷ [])
alike_itself meanings alike same n other is = elim (last_or alike (length alike) n other is) [
  | inl e ↦ (omega (arith, e.0, e.1), ap (type_at meanings) (e.1 ∙ sym e.0))
  | inr e ↦ same n other e
]

-- one that points to another of its type
pub alike_set : (meanings : List Meaning) (alike : List ℕ) (place other : ℕ) → other ≤ place → type_at meanings other ≡ type_at meanings place → AreAlike meanings alike → AreAlike meanings (slice_set alike place other)
alike_set meanings alike place next no_later is_same same n other is = elim (set_or alike place next n other is) [
  | inl e ↦ (omega (arith, e.0, e.1, no_later), ap (type_at meanings) e.1 ∙ is_same ∙ ap (type_at meanings) (sym e.0))
  | inr e ↦ same n other e
]

-- where one points, and what that points to
pub alike_further : (meanings : List Meaning) (alike : List ℕ) (place next further : ℕ) → AreAlike meanings alike → slice_get alike place ≡ Some next → (slice_get alike next ≡ Some further) ⊎ (further ≡ next)
    → (further ≤ next) × (next ≤ place) × (type_at meanings further ≡ type_at meanings place)
alike_further meanings alike place next further same is (inl there) = (let far = same next further there in let near = same place next is in (far.0, near.0, far.1 ∙ near.1))
alike_further meanings alike place next further same is (inr itself) = (let near = same place next is in (omega (arith, itself), near.0, ap (type_at meanings) itself ∙ near.1))

-- the last is taken away
shorter : {X : Type 0} (result : Option X) (all new : List X) → MatchOption result ((all ≡ []) × (new ≡ [])) (λ last. all ≡ new ++ last ∷ []) → length new ≡ length all - 1
shorter None all new h = ap length h.1 ∙ sym (ap (λ xs. length xs - 1) h.0)
shorter {X} (Some last) all new h = let e : length (new ++ last ∷ []) ≡ length new + 1 = length-append new (last ∷ []) in let f : length all ≡ length (new ++ last ∷ []) = ap length h in omega (arith, e, f)

none_within : (meanings : List Meaning) (alike : List ℕ) → length alike ≤ 0 → AreAlike meanings alike
none_within meanings alike within n other is = let f : n < length alike = slice_get_within alike n other is in absurd (omega (arith, f, within))

alike_popped : (result : Option Meaning) (meanings new : List Meaning) (alike : List ℕ) → MatchOption result ((meanings ≡ []) × (new ≡ [])) (λ last. meanings ≡ new ++ last ∷ []) → length alike ≤ length new → AreAlike meanings alike → AreAlike new alike
alike_popped None meanings new alike h within same = let e : length new ≡ 0 = ap length h.1 in none_within new alike (omega (arith, e, within))
alike_popped (Some last) meanings new alike h within same = alike_without new last alike within (subst (λ (ms : List Meaning). AreAlike ms alike) h same)

note_popped : (result : Option ℕ) (meanings : List Meaning) (alike new : List ℕ) → MatchOption result ((alike ≡ []) × (new ≡ [])) (λ last. alike ≡ new ++ last ∷ []) → AreAlike meanings alike → AreAlike meanings new
note_popped None meanings alike new h same = subst (AreAlike meanings) (sym h.1) (none_alike meanings)
note_popped (Some last) meanings alike new h same = alike_front meanings new last (subst (AreAlike meanings) h same)

pub without_last : (last : Option Meaning) (meanings new : List Meaning) (alike : List ℕ) → MatchOption last ((meanings ≡ []) × (new ≡ [])) (λ it. meanings ≡ new ++ it ∷ []) → length alike ≤ length new → AreAlike meanings alike → IsAlike (record { meanings = new; alike = alike })
without_last last meanings new alike h within same = record { within = within; same = alike_popped last meanings new alike h within same }

pub without_both : (last : Option Meaning) (note : Option ℕ) (meanings new : List Meaning) (alike fewer : List ℕ)
    → MatchOption last ((meanings ≡ []) × (new ≡ [])) (λ it. meanings ≡ new ++ it ∷ []) → MatchOption note ((alike ≡ []) × (fewer ≡ [])) (λ it. alike ≡ fewer ++ it ∷ [])
    → length alike ≤ length meanings → AreAlike meanings alike → IsAlike (record { meanings = new; alike = fewer })
without_both last note meanings new alike fewer h g within same =
    let e = shorter last meanings new h in
    let f = shorter note alike fewer g in
    let w : length fewer ≤ length new = omega (arith, e, f, within) in
    record { within = w; same = alike_popped last meanings new fewer h w (note_popped note meanings alike fewer g same) }

pub with_one : (meanings new : List Meaning) (last : Meaning) (alike : List ℕ) → new ≡ meanings ++ last ∷ [] → length alike ≤ length meanings → AreAlike meanings alike → IsAlike (record { meanings = new; alike = alike })
with_one meanings new last alike is within same = record {
  within = let e : length (meanings ++ last ∷ []) ≡ length meanings + 1 = length-append meanings (last ∷ []) in let f : length new ≡ length (meanings ++ last ∷ []) = ap length is in omega (arith, e, f, within);
  same = subst (λ (ms : List Meaning). AreAlike ms alike) (sym is) (alike_under meanings last alike within same);
}

pub as_before : (meanings new : List Meaning) (alike : List ℕ) → new ≡ meanings → length alike ≤ length meanings → AreAlike meanings alike → IsAlike (record { meanings = new; alike = alike })
as_before meanings new alike is within same = subst (λ (ms : List Meaning). IsAlike (record { meanings = ms; alike = alike })) (sym is) (record { within = within; same = same })

pub notes_as_before : (meanings : List Meaning) (alike new : List ℕ) → new ≡ alike → length alike ≤ length meanings → AreAlike meanings alike → IsAlike (record { meanings = meanings; alike = new })
notes_as_before meanings alike new is within same = subst (λ (ns : List ℕ). IsAlike (record { meanings = meanings; alike = ns })) (sym is) (record { within = within; same = same })

pub note_more : (meanings : List Meaning) (alike new : List ℕ) (itself : ℕ) → itself ≡ length alike → new ≡ alike ++ itself ∷ [] → AreAlike meanings alike → AreAlike meanings new
note_more meanings alike new itself is e same = subst (AreAlike meanings) (sym (e ∙ ap (λ (n : ℕ). alike ++ n ∷ []) is)) (alike_itself meanings alike same)

pub note_set : (meanings : List Meaning) (alike new : List ℕ) (place other : ℕ) → new ≡ slice_set alike place other → other ≤ place → type_at meanings other ≡ type_at meanings place → AreAlike meanings alike → AreAlike meanings new
note_set meanings alike new place other e h is same = subst (AreAlike meanings) (sym e) (alike_set meanings alike place other h is same)

-- ---- formals of a function, and its results after them

pub formal_in : (formals : List Formal) (results : List OccType) (k : ℕ) (formal : Formal) → slice_get formals k ≡ Some formal → slice_get (formal_types formals ++ results) k ≡ Some formal.of
formal_in [] results k formal is = absurd cc
formal_in (f ∷ fs) results zero formal is = ap (λ (x : Option Formal). formal_type x) is
formal_in (f ∷ fs) results (suc k) formal is = formal_in fs results k formal is

less_none : (k : ℕ) → k ≡ k - 0
less_none k = omega arith

less_one : (k n : ℕ) → k - n ≡ suc k - suc n
less_one k n = omega arith

pub result_in : (formals : List Formal) (results : List OccType) (k : ℕ) → slice_get formals k ≡ None → slice_get (formal_types formals ++ results) k ≡ slice_get results (k - length formals)
result_in [] results k is = ap (slice_get results) (less_none k)
result_in (f ∷ fs) results zero is = absurd cc
result_in (f ∷ fs) results (suc k) is = result_in fs results k is ∙ ap (slice_get results) (less_one k (length fs))
