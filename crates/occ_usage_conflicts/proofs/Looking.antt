-- A use is looked for among those of its bucket.
use Rattle.std.proofs.Common.{◌≡◌, ◌≢◌, ℕ, zero, suc, ◌<◌, ◌≤◌, ◌+◌, ◌-◌, ◌/◌, Bool, true, false, ap, sym, subst, ◌∙◌, refl, arith, List, [], ◌∷◌, ◌++◌, Option, Some, None, length, slice_get, slice_set, replicate, inl, inr}
use Rattle.std.specs.Prelude.{◌⊎◌}
use Rattle.std.proofs.lemmas.List.{length-append, length-replicate}
use Rattle.std.proofs.lemmas.Nat.{and_le_r}
use Rattle.occ_usage_values.specs.declared.uses.Use.{Use}
use Rattle.occ_usage_conflicts.specs.Distinct.{is_among, same_use}
use Rattle.occ_usage_conflicts.specs.inside.Linking.{AreLinked, IsLinked, is_use, linked}
use Rattle.occ_usage_conflicts.specs.inside.Numbering.{bucket_of, number_of}
use Rattle.occ_usage_conflicts.proofs.Accumulation.{get_within, set_length}
use Rattle.occ_usage_conflicts.proofs.Clashing.{any_found, any_given}
use Rattle.occ_usage_conflicts.proofs.Equality.{same_exactly}
use Rattle.occ_usage_conflicts.proofs.Once.{get_push, got_within}

-- ---- the search

-- where the use stands among these, it stands before this one, which is one more than a place of its bucket
pub record IsClear (u : Use) (count : ℕ) (found : List Use) (next : ℕ) : Type 0 where
  pub before : (p : ℕ) → is_use u (slice_get found p) ≡ true → p < next
  pub bucket : (p : ℕ) (v : Use) → next ≡ suc p → slice_get found p ≡ Some v → bucket_of v count ≡ bucket_of u count
  pub within : next ≤ length found

found_use : (u : Use) (x : Option Use) → is_use u x ≡ true → x ≡ Some u
found_use u None h = cc
found_use u (Some v) h = ap Some ((same_exactly v u).0 h)

pub clear_first : (heads before : List ℕ) (found : List Use) (u : Use) → IsLinked heads before found
    → IsClear u (length heads) found (linked heads (bucket_of u (length heads)))
clear_first heads before found u h = record {
  before = λ p e. h.last p u (found_use u (slice_get found p) e);
  bucket = λ p v is at. h.own (bucket_of u (length heads)) p v is at;
  within = h.within (bucket_of u (length heads));
}

pub clear_next : (heads before : List ℕ) (found : List Use) (u : Use) (next place : ℕ) → IsLinked heads before found
    → IsClear u (length heads) found next → next ≡ place + 1 → is_use u (slice_get found place) ≡ false
    → IsClear u (length heads) found (linked before place)
clear_next heads before found u next place h c is other = at (get_within found place (let w : next ≤ length found = c.within in omega (arith, w, is))) where
  at : (v : Use) × (slice_get found place ≡ Some v) → IsClear u (length heads) found (linked before place)
  at (v, here) = record {
    before = λ p e. let lower : p < next = c.before p e in by_place p e (not_place p e) lower;
    bucket = λ p w e got. h.same place p w v e got here ∙ own;
    within = let k : linked before place ≤ place = h.back place in let w : next ≤ length found = c.within in omega (arith, k, w, is);
  } where
    own : bucket_of v (length heads) ≡ bucket_of u (length heads)
    own = c.bucket place v (omega (arith, is)) here

    not_place : (p : ℕ) → is_use u (slice_get found p) ≡ true → p ≢ place
    not_place p e q = let same : is_use u (slice_get found p) ≡ is_use u (slice_get found place) = ap (λ (k : ℕ). is_use u (slice_get found k)) q in cc

    by_place : (p : ℕ) → is_use u (slice_get found p) ≡ true → p ≢ place → p < next → p < linked before place
    by_place p e apart lower =
        h.next p place u v (found_use u (slice_get found p) e) here (sym own) (lower_place p place apart lower is) where
          lower_place : (p place : ℕ) → p ≢ place → p < next → next ≡ place + 1 → p < place
          lower_place p place a b c = grind (arith, a, b, c)

pub clear_none : (u : Use) (count : ℕ) (found : List Use) (next : ℕ) → IsClear u count found next → next ≡ 0 → is_among found u ≡ false
clear_none u count found next c is = by_test (is_among found u) refl where
  by_test : (t : Bool) → is_among found u ≡ t → t ≡ false
  by_test false e = refl
  by_test true e =
      let m = any_found (λ (x : Use). same_use x u) found e in
      let k : m.1.0 < next = c.before (m.1.0) (ap (is_use u) (m.1.1) ∙ m.2) in absurd (omega (arith, k, is))

pub clear_found : (found : List Use) (u : Use) (place : ℕ) → is_use u (slice_get found place) ≡ true → is_among found u ≡ true
clear_found found u place h = any_given (λ (x : Use). same_use x u) found u place (found_use u (slice_get found place) h) ((same_exactly u u).1 refl)

-- ---- one use more

linked_set : (xs : List ℕ) (at y k : ℕ) → at < length xs → ((k ≡ at) × (linked (slice_set xs at y) k ≡ y)) ⊎ ((k ≢ at) × (linked (slice_set xs at y) k ≡ linked xs k))
linked_set [] at y k w = absurd (omega (arith, w))
linked_set (x ∷ xs) zero y zero w = inl (refl, refl)
linked_set (x ∷ xs) zero y (suc k) w = inr ((λ (e : suc k ≡ zero). omega (arith, e)), refl)
linked_set (x ∷ xs) (suc at) y zero w = inr ((λ (e : zero ≡ suc at). omega (arith, e)), refl)
linked_set (x ∷ xs) (suc at) y (suc k) w = elim (linked_set xs at y k (omega (arith, w))) [
  | inl m ↦ inl (ap suc (m.0), m.1)
  | inr m ↦ inr ((λ (e : suc k ≡ suc at). m.0 (omega (arith, e))), m.1)
]

linked_push : (xs : List ℕ) (y k : ℕ) → ((k ≡ length xs) × (linked (xs ++ y ∷ []) k ≡ y)) ⊎ ((k ≢ length xs) × (linked (xs ++ y ∷ []) k ≡ linked xs k))
linked_push [] y zero = inl (refl, refl)
linked_push [] y (suc k) = inr ((λ (e : suc k ≡ zero). omega (arith, e)), refl)
linked_push (x ∷ xs) y zero = inr ((λ (e : zero ≡ suc (length xs)). omega (arith, e)), refl)
linked_push (x ∷ xs) y (suc k) = elim (linked_push xs y k) [
  | inl m ↦ inl (ap suc (m.0), m.1)
  | inr m ↦ inr ((λ (e : suc k ≡ suc (length xs)). m.0 (omega (arith, e))), m.1)
]

pub linked_use : (count : ℕ) (heads before : List ℕ) (found : List Use) (v : Use) → AreLinked count heads before found
    → AreLinked count (slice_set heads (bucket_of v count) (length found + 1)) (before ++ linked heads (bucket_of v count) ∷ []) (found ++ v ∷ [])
linked_use count heads before found v h = record {
  some = h.some;
  all = set_length heads own (length found + 1) ∙ h.all;
  each = let e : length before ≡ length found = h.each in omega (arith, e, length-append found (v ∷ []), length-append before (linked heads own ∷ []));
  last = last;
  next = next;
  own = has_own;
  same = has_same;
  within = within;
  back = back;
} where
  own : ℕ
  own = bucket_of v count

  room : own < length heads
  room = let e : length heads ≡ count = h.all in let s : 0 < count = h.some in let w : bucket_of v count ≤ count - 1 = and_le_r (number_of v / 4294967296) (count - 1) in omega (arith, e, s, w)

  last : (p : ℕ) (u : Use) → slice_get (found ++ v ∷ []) p ≡ Some u → p < linked (slice_set heads own (length found + 1)) (bucket_of u count)
  last p u at = elim (get_push found v u p at) [
    | inl e ↦ elim (linked_set heads own (length found + 1) (bucket_of u count) room) [
      | inl m ↦ let w : p < length found = got_within found p u e in omega (arith, w, m.1)
      | inr m ↦ let w : p < linked heads (bucket_of u count) = h.last p u e in omega (arith, w, m.1)
    ]
    | inr e ↦ elim (linked_set heads own (length found + 1) (bucket_of u count) room) [
      | inl m ↦ let w : p ≡ length found = e.0 in omega (arith, w, m.1)
      | inr m ↦ absurd (m.0 (ap (λ (x : Use). bucket_of x count) (e.1)))
    ]
  ]

  next : (p q : ℕ) (u x : Use) → slice_get (found ++ v ∷ []) p ≡ Some u → slice_get (found ++ v ∷ []) q ≡ Some x → bucket_of u count ≡ bucket_of x count → p < q
      → p < linked (before ++ linked heads own ∷ []) q
  next p q u x at_p at_q is lower = by_last (get_push found v u p at_p) (get_push found v x q at_q) (linked_push before (linked heads own) q) where
    same_size : length before ≡ length found
    same_size = h.each

    by_last : ((slice_get found p ≡ Some u) ⊎ ((p ≡ length found) × (u ≡ v))) → ((slice_get found q ≡ Some x) ⊎ ((q ≡ length found) × (x ≡ v)))
        → (((q ≡ length before) × (linked (before ++ linked heads own ∷ []) q ≡ linked heads own)) ⊎ ((q ≢ length before) × (linked (before ++ linked heads own ∷ []) q ≡ linked before q)))
        → p < linked (before ++ linked heads own ∷ []) q
    by_last (inl a) (inl b) (inl m) = let w : q < length found = got_within found q x b in let z : q ≡ length before = m.0 in absurd (omega (arith, w, z, same_size))
    by_last (inl a) (inl b) (inr m) = let w : p < linked before q = h.next p q u x a b is lower in omega (arith, w, m.1)
    by_last (inr a) (inl b) m = let w : q < length found = got_within found q x b in let z : p ≡ length found = a.0 in absurd (omega (arith, w, z, lower))
    by_last (inr a) (inr b) m = let y : q ≡ length found = b.0 in let z : p ≡ length found = a.0 in absurd (omega (arith, y, z, lower))
    by_last (inl a) (inr b) (inl m) =
        let k : linked heads (bucket_of u count) ≡ linked heads own = ap (linked heads) (is ∙ ap (λ (z : Use). bucket_of z count) (b.1)) in
        let w : p < linked heads (bucket_of u count) = h.last p u a in omega (arith, w, k, m.1)
    by_last (inl a) (inr b) (inr m) = let y : q ≡ length found = b.0 in absurd (m.0 (omega (arith, y, same_size)))

  has_own : (at p : ℕ) (u : Use) → linked (slice_set heads own (length found + 1)) at ≡ suc p → slice_get (found ++ v ∷ []) p ≡ Some u → bucket_of u count ≡ at
  has_own at p u is got = by_place (get_push found v u p got) (linked_set heads own (length found + 1) at room) where
    by_place : ((slice_get found p ≡ Some u) ⊎ ((p ≡ length found) × (u ≡ v)))
        → (((at ≡ own) × (linked (slice_set heads own (length found + 1)) at ≡ length found + 1)) ⊎ ((at ≢ own) × (linked (slice_set heads own (length found + 1)) at ≡ linked heads at)))
        → bucket_of u count ≡ at
    by_place (inl a) (inl m) = let w : p < length found = got_within found p u a in let k : linked (slice_set heads own (length found + 1)) at ≡ length found + 1 = m.1 in absurd (omega (arith, w, k, is))
    by_place (inl a) (inr m) = h.own at p u (sym (m.1) ∙ is) a
    by_place (inr a) (inl m) = ap (λ (z : Use). bucket_of z count) (a.1) ∙ sym (m.0)
    by_place (inr a) (inr m) = let w : linked heads at ≤ length found = h.within at in let z : p ≡ length found = a.0 in let k : linked (slice_set heads own (length found + 1)) at ≡ linked heads at = m.1 in absurd (omega (arith, w, z, k, is))

  has_same : (q p : ℕ) (u x : Use) → linked (before ++ linked heads own ∷ []) q ≡ suc p → slice_get (found ++ v ∷ []) p ≡ Some u → slice_get (found ++ v ∷ []) q ≡ Some x
      → bucket_of u count ≡ bucket_of x count
  has_same q p u x is at_p at_q = by_place (get_push found v u p at_p) (get_push found v x q at_q) (linked_push before (linked heads own) q) where
    same_size : length before ≡ length found
    same_size = h.each

    by_place : ((slice_get found p ≡ Some u) ⊎ ((p ≡ length found) × (u ≡ v))) → ((slice_get found q ≡ Some x) ⊎ ((q ≡ length found) × (x ≡ v)))
        → (((q ≡ length before) × (linked (before ++ linked heads own ∷ []) q ≡ linked heads own)) ⊎ ((q ≢ length before) × (linked (before ++ linked heads own ∷ []) q ≡ linked before q)))
        → bucket_of u count ≡ bucket_of x count
    by_place a (inl b) (inl m) = let w : q < length found = got_within found q x b in let z : q ≡ length before = m.0 in absurd (omega (arith, w, z, same_size))
    by_place (inl a) (inr b) (inl m) = h.own own p u (sym (m.1) ∙ is) a ∙ sym (ap (λ (z : Use). bucket_of z count) (b.1))
    by_place (inr a) (inr b) (inl m) = ap (λ (z : Use). bucket_of z count) (a.1 ∙ sym (b.1))
    by_place a (inr b) (inr m) = let y : q ≡ length found = b.0 in absurd (m.0 (omega (arith, y, same_size)))
    by_place (inl a) (inl b) (inr m) = h.same q p u x (sym (m.1) ∙ is) a b
    by_place (inr a) (inl b) (inr m) =
        let w : q < length found = got_within found q x b in let z : p ≡ length found = a.0 in let k : linked before q ≤ q = h.back q in
        let j : linked (before ++ linked heads own ∷ []) q ≡ linked before q = m.1 in absurd (omega (arith, w, z, k, j, is))

  within : (at : ℕ) → linked (slice_set heads own (length found + 1)) at ≤ length (found ++ v ∷ [])
  within at = elim (linked_set heads own (length found + 1) at room) [
    | inl m ↦ let k : linked (slice_set heads own (length found + 1)) at ≡ length found + 1 = m.1 in omega (arith, k, length-append found (v ∷ []))
    | inr m ↦ let w : linked heads at ≤ length found = h.within at in let k : linked (slice_set heads own (length found + 1)) at ≡ linked heads at = m.1 in omega (arith, w, k, length-append found (v ∷ []))
  ]

  back : (q : ℕ) → linked (before ++ linked heads own ∷ []) q ≤ q
  back q = elim (linked_push before (linked heads own) q) [
    | inl m ↦ let w : linked heads own ≤ length found = h.within own in let e : length before ≡ length found = h.each in let k : linked (before ++ linked heads own ∷ []) q ≡ linked heads own = m.1 in let y : q ≡ length before = m.0 in omega (arith, w, e, k, y)
    | inr m ↦ let w : linked before q ≤ q = h.back q in let k : linked (before ++ linked heads own ∷ []) q ≡ linked before q = m.1 in omega (arith, w, k)
  ]

-- ---- no use

pub linked_none : (count : ℕ) (heads : List ℕ) → 0 < count → heads ≡ replicate count 0 → IsLinked heads [] []
linked_none count heads some is = subst (λ (n : ℕ). AreLinked n heads [] []) (sym size) (record {
  some = some;
  all = size;
  each = refl;
  last = λ p u at. absurd (nothing p u at);
  next = λ p q u v at. absurd (nothing p u at);
  own = λ at p u e got. absurd (nothing p u got);
  same = λ q p u v e got. absurd (nothing p u got);
  within = λ at. let e : linked heads at ≡ 0 = ap (λ (xs : List ℕ). linked xs at) is ∙ zeros count at in omega (arith, e);
  back = λ q. let e : linked [] q ≡ 0 = zeros 0 q in omega (arith, e);
}) where
  size : length heads ≡ count
  size = ap length is ∙ length-replicate count 0

  nothing : (p : ℕ) (u : Use) → slice_get [] p ≡ Some u → ⊥
  nothing p u h = cc

  zeros : (n at : ℕ) → linked (replicate n 0) at ≡ 0
  zeros zero at = refl
  zeros (suc n) zero = refl
  zeros (suc n) (suc at) = zeros n at

-- a place is noted for a use of this bucket
pub noted_use : (heads before after noted : List ℕ) (found more : List Use) (v : Use) (bucket place : ℕ) → IsLinked heads before found → bucket ≡ bucket_of v (length heads) → place ≡ length found
    → after ≡ slice_set heads bucket (place + 1) → noted ≡ before ++ linked heads bucket ∷ [] → more ≡ found ++ v ∷ []
    → IsLinked after noted more
noted_use heads before after noted found more v bucket place linked_before is here a b c =
    let put : after ≡ slice_set heads (bucket_of v (length heads)) (length found + 1) = a ∙ ap (λ (n : ℕ). slice_set heads n (place + 1)) is ∙ ap (λ (n : ℕ). slice_set heads (bucket_of v (length heads)) (n + 1)) here in
    let told : noted ≡ before ++ linked heads (bucket_of v (length heads)) ∷ [] = b ∙ ap (λ (n : ℕ). before ++ linked heads n ∷ []) is in
    let size : length after ≡ length heads = ap (λ (xs : List ℕ). length xs) put ∙ set_length heads (bucket_of v (length heads)) (length found + 1) in
    subst (λ (n : ℕ). AreLinked n after noted more) (sym size)
    (subst (λ (xs : List ℕ). AreLinked (length heads) xs noted more) (sym put)
    (subst (λ (xs : List ℕ). AreLinked (length heads) (slice_set heads (bucket_of v (length heads)) (length found + 1)) xs more) (sym told)
    (subst (λ (us : List Use). AreLinked (length heads) (slice_set heads (bucket_of v (length heads)) (length found + 1)) (before ++ linked heads (bucket_of v (length heads)) ∷ []) us) (sym c)
    (linked_use (length heads) heads before found v linked_before))))
