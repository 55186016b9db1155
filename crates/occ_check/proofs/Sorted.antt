-- A used unit is found by halves.
use Rattle.std.proofs.Common.{◌≡◌, ◌∙◌, ◌<◌, ◌≤◌, ℕ, zero, suc, Bool, false, cond, List, [], ◌∷◌, length, map, get_or, Result, Ok, Err, MatchResult, refl, sym, ap, subst, inl, inr, arith}
use Rattle.std.proofs.lemmas.Bool.{cases_lt}
use Rattle.std.proofs.lemmas.Cmp.{nat_list_cmp_total}
use Rattle.std.specs.Cmp.{tied_itself}
use Rattle.std.specs.List.{AllByRecursion, HoldsAt}
use Rattle.std.specs.List.Sorted.{IsBinarySearchResult, IsNonDecreasingBy, IsSearchInRange, IsStrictlySortedBy}
use Rattle.std.specs.Ordering.{ordering_index}
use Rattle.std.specs.Str.{bytes_eq}
use Rattle.std.specs.declared.cmp.Ordering.{Ordering}
use Rattle.std.specs.declared.cmp.Ordering.TheVariants.{Less, Equal, Greater}
use Rattle.occ_check.specs.Faults.{standing}
use Rattle.occ_check.specs.declared.used.Used.TheVariants as how
use Rattle.occ_check.specs.declared.used.UsedUnit.{UsedUnit}
use Rattle.occ_check.specs.inside.Sorted.{AreSorted}
use Rattle.occ_project.specs.Reads.{name_cmp}
use Rattle.occ_project.specs.Uses.{names_in_order}
use Rattle.occ_project_units.proofs.Rising.{apart, equal_names, equal_test, insert_rising, less_joined}

-- the units of an input stand so
in_order_rises : (names : List (List ℕ)) → IsStrictlySortedBy name_cmp (names_in_order names)
unfolding IsStrictlySortedBy
in_order_rises [] = tt
in_order_rises (name ∷ names) = insert_rising (names_in_order names) name (in_order_rises names)

pub used_rise : (used : List UsedUnit) (names : List (List ℕ)) → map (λ one. one.unit) used ≡ names_in_order names → AreSorted used
used_rise used names h = subst (IsStrictlySortedBy name_cmp) (sym h) (in_order_rises names)

-- those after the first are greater
later : (x : UsedUnit) (used : List UsedUnit) → AllByRecursion (λ name. name_cmp x.unit name ≡ Less) (map (λ one. one.unit) used) → (k : ℕ) (d : UsedUnit) → k < length used → name_cmp x.unit (get_or used k d).unit ≡ Less
later x [] h k d lt = absurd (omega (arith, lt))
later x (y ∷ used) h zero d lt = h.0
later x (y ∷ used) h (suc k) d lt = later x used h.1 k d (omega (arith, lt))

below_two : (o : Ordering) → ordering_index o ≤ 2
below_two Less = omega arith
below_two Equal = omega arith
below_two Greater = omega arith

least : (o p : Ordering) → o ≡ Less → ordering_index o ≤ ordering_index p
least o p e = rw e (omega arith)

rises : (a b name : List ℕ) (o : Ordering) → name_cmp b name ≡ o → name_cmp a b ≡ Less → ordering_index (name_cmp a name) ≤ ordering_index o
rises a b name Less e l = least (name_cmp a name) Less (less_joined a b name l e)
rises a b name Equal e l = least (name_cmp a name) Equal (subst (λ (n : List ℕ). name_cmp a n ≡ Less) (equal_names b name e) l)
rises a b name Greater e l = below_two (name_cmp a name)

comparisons_rise : (name : List ℕ) (used : List UsedUnit) → AreSorted used → IsNonDecreasingBy (λ one. ordering_index (name_cmp one.unit name)) used
unfolding IsStrictlySortedBy
comparisons_rise name [] h i j d le lt = absurd (omega (arith, lt))
comparisons_rise name (x ∷ used) h zero zero d le lt = omega arith
comparisons_rise name (x ∷ used) h zero (suc j) d le lt = rises x.unit (get_or used j d).unit name (name_cmp (get_or used j d).unit name) refl (later x used h.0 j d (omega (arith, lt)))
comparisons_rise name (x ∷ used) h (suc i) zero d le lt = absurd (omega (arith, le))
comparisons_rise name (x ∷ used) h (suc i) (suc j) d le lt = comparisons_rise name used h.1 i j d (omega (arith, le)) (omega (arith, lt))

-- one that has the name is the first that has it
found_at : (name : List ℕ) (used : List UsedUnit) (at : ℕ) (d : UsedUnit) → AreSorted used → at < length used → HoldsAt (λ one. name_cmp one.unit name ≡ Equal) used at → standing used name ≡ (get_or used at d).used
unfolding IsStrictlySortedBy
found_at name [] at d s lt h = absurd (omega (arith, lt))
found_at name (x ∷ used) zero d s lt h = ap (λ (b : Bool). cond b x.used (standing used name)) (equal_test x.unit name (h x))
found_at name (x ∷ used) (suc k) d s lt h =
    let there = equal_names (get_or used k x).unit name (h x) in
    let less : name_cmp x.unit name ≡ Less = subst (λ (n : List ℕ). name_cmp x.unit n ≡ Less) there (later x used s.0 k x (omega (arith, lt))) in
    ap (λ (b : Bool). cond b x.used (standing used name)) (apart x.unit name Less less) ∙ found_at name used k d s.1 (omega (arith, lt)) (λ e. h e)

pub found_here : (name : List ℕ) (used : List UsedUnit) (at : ℕ) (d : UsedUnit) → AreSorted used → (at < length used) × HoldsAt (λ one. one.unit ≡ name) used at → standing used name ≡ (get_or used at d).used
found_here name used at d sorted there = found_at name used at d sorted there.0 (λ e. ap (λ (n : List ℕ). name_cmp n name) (there.1 e) ∙ tied_itself nat_list_cmp_total name)

none_found : (name : List ℕ) (used : List UsedUnit) → ((k : ℕ) (d : UsedUnit) → k < length used → bytes_eq (get_or used k d).unit name ≡ false) → standing used name ≡ how.Absent
none_found name [] h = refl
none_found name (x ∷ used) h = ap (λ (b : Bool). cond b x.used (standing used name)) (h 0 x (omega arith)) ∙ none_found name used (λ k d lt. h (suc k) d (omega (arith, lt)))

pub searched : (name : List ℕ) (used : List UsedUnit) → AreSorted used → (r : Result ℕ ℕ) → IsSearchInRange r (length used) → IsBinarySearchResult (λ one. name_cmp one.unit name) used r
    → MatchResult r (λ at. (d : UsedUnit) → standing used name ≡ (get_or used at d).used) (λ at. standing used name ≡ how.Absent)
searched name used sorted (Ok at) within equal = λ d. found_at name used at d sorted within equal
searched name used sorted (Err at) within parted =
    let parts = parted (comparisons_rise name used sorted) in
    none_found name used (λ k d lt. elim (cases_lt k at) [
      | inl below ↦ apart (get_or used k d).unit name Less (parts.0 k d (omega arith) below)
      | inr above ↦ apart (get_or used k d).unit name Greater (parts.1 k d above lt)
    ])
