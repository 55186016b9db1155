-- Components of which the uses stand one after the other.
use Rattle.std.proofs.Common.{◌≡◌, ℕ, zero, suc, ◌<◌, ◌≤◌, ap, sym, subst, ◌∙◌, refl, arith, List, [], ◌∷◌, ◌++◌, append_assoc, Some, length, slice_get, drop, take, Bool, true, false, inl, inr}
use Rattle.std.specs.Prelude.{◌⊎◌, min, nat_le}
use Rattle.std.proofs.lemmas.List.{append-nil, drop_all, take_all}
use Rattle.occ_usage_values.specs.declared.uses.Use.{Use}
use Rattle.occ_usage_conflicts.specs.Components.{joined, parted}
use Rattle.occ_usage_conflicts.specs.declared.accumulate.RootUses.{RootUses}
use Rattle.occ_usage_conflicts.specs.inside.Accumulating.{IsTable}

-- ---- each use of a component is one of the uses

got_take : {X : Type 0} (n : ℕ) (xs : List X) (j : ℕ) (x : X) → slice_get (take n xs) j ≡ Some x → slice_get xs j ≡ Some x
got_take zero xs j x h = absurd (nothing j h) where
  nothing : (j : ℕ) → slice_get [] j ≡ Some x → ⊥
  nothing j e = cc
got_take (suc n) [] j x h = h
got_take (suc n) (y ∷ ys) zero x h = h
got_take (suc n) (y ∷ ys) (suc j) x h = got_take n ys j x h

got_drop : {X : Type 0} (n : ℕ) (xs : List X) (j : ℕ) (x : X) → slice_get (drop n xs) j ≡ Some x → (k : ℕ) × (slice_get xs k ≡ Some x)
got_drop zero xs j x h = (j, h)
got_drop (suc n) [] j x h = (j, h)
got_drop (suc n) (y ∷ ys) j x h = let m = got_drop n ys j x h in (suc (m.0), m.1)

pub got_parted : (ns : List ℕ) (us : List Use) (k j : ℕ) (vs : List Use) (u : Use) → slice_get (parted ns us) k ≡ Some vs → slice_get vs j ≡ Some u → (i : ℕ) × (slice_get us i ≡ Some u)
got_parted [] us k j vs u h e = absurd (nothing k h) where
  nothing : (k : ℕ) → slice_get [] k ≡ Some vs → ⊥
  nothing k e = cc
got_parted (n ∷ ns) us zero j vs u h e = let same : take n us ≡ vs = cc in (j, got_take n us j u (ap (λ (ws : List Use). slice_get ws j) same ∙ e))
got_parted (n ∷ ns) us (suc k) j vs u h e = let m = got_parted ns (drop n us) k j vs u h e in got_drop n us (m.0) u (m.1)

pub parted_length : (ns : List ℕ) (us : List Use) → length (parted ns us) ≡ length ns
parted_length [] us = refl
parted_length (n ∷ ns) us = ap suc (parted_length ns (drop n us))

-- ---- one component after the other

-- these components come before those of the rest, and the table is theirs
pub record IsPart (ns : List ℕ) (us : List Use) (left : List ℕ) (rest : List Use) (table : List RootUses) : Type 0 where
  pub seen : List (List Use)
  pub all : seen ++ parted left rest ≡ parted ns us
  pub known : IsTable seen (joined seen) table

capped : {X : Type 0} (n : ℕ) (xs : List X) → (min n (length xs) ≡ n) ⊎ ((min n (length xs) ≡ length xs) × (length xs ≤ n))
capped n xs = by_test (nat_le n (length xs)) refl where
  by_test : (t : Bool) → nat_le n (length xs) ≡ t → (min n (length xs) ≡ n) ⊎ ((min n (length xs) ≡ length xs) × (length xs ≤ n))
  by_test true e = let w : n ≤ length xs = grind (arith, e) in inl (omega (arith, w))
  by_test false e = let w : length xs < n = grind (arith, e) in inr (omega (arith, w), omega (arith, w))

take_min : {X : Type 0} (n : ℕ) (xs : List X) → take (min n (length xs)) xs ≡ take n xs
take_min n xs = elim (capped n xs) [
  | inl e ↦ ap (λ (k : ℕ). take k xs) e
  | inr m ↦ ap (λ (k : ℕ). take k xs) (m.0) ∙ take_all (length xs) xs (omega arith) ∙ sym (take_all n xs (m.1))
]

drop_min : {X : Type 0} (n : ℕ) (xs : List X) → drop (min n (length xs)) xs ≡ drop n xs
drop_min n xs = elim (capped n xs) [
  | inl e ↦ ap (λ (k : ℕ). drop k xs) e
  | inr m ↦ ap (λ (k : ℕ). drop k xs) (m.0) ∙ drop_all (length xs) xs (omega arith) ∙ sym (drop_all n xs (m.1))
]

pub part_none : (ns : List ℕ) (us : List Use) (table : List RootUses) → IsTable [] [] table → IsPart ns us ns us table
part_none ns us table h = record { seen = []; all = refl; known = h }

pub part_more : (ns : List ℕ) (us : List Use) (left : List ℕ) (n : ℕ) (more : List ℕ) (rest component following : List Use) (before after : List RootUses)
    → IsPart ns us left rest before → left ≡ n ∷ more
    → component ≡ take (min n (length rest)) rest → following ≡ drop (min n (length rest)) rest
    → ((seen : List (List Use)) → IsTable seen (joined seen) before → IsTable (seen ++ component ∷ []) (joined (seen ++ component ∷ [])) after)
    → IsPart ns us more following after
part_more ns us left n more rest component following before after h is took left_over step = record {
  seen = h.seen ++ component ∷ [];
  all = append_assoc h.seen (component ∷ []) (parted more following)
      ∙ ap (λ (x : List Use). h.seen ++ x ∷ parted more following) (took ∙ take_min n rest)
      ∙ ap (λ (x : List Use). h.seen ++ take n rest ∷ parted more x) (left_over ∙ drop_min n rest)
      ∙ ap (λ (ms : List ℕ). h.seen ++ parted ms rest) (sym is)
      ∙ h.all;
  known = step h.seen h.known;
}

pub part_all : (ns : List ℕ) (us : List Use) (left : List ℕ) (rest : List Use) (table : List RootUses) → IsPart ns us left rest table → left ≡ []
    → IsTable (parted ns us) (joined (parted ns us)) table
part_all ns us left rest table h is =
    subst (λ (cs : List (List Use)). IsTable cs (joined cs) table) (sym (append-nil h.seen) ∙ ap (λ (ms : List ℕ). h.seen ++ parted ms rest) (sym is) ∙ h.all) h.known
