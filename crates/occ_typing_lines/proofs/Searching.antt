-- An import is found by halves.
use Rattle.std.proofs.Common.{◌≡◌, ◌∙◌, ◌<◌, ◌≤◌, ℕ, zero, suc, Bool, false, Option, None, Some, List, [], ◌∷◌, length, map, get_or, Result, Ok, Err, MatchResult, if◌then◌else◌, refl, sym, ap, subst, inl, inr, arith}
use Rattle.std.proofs.lemmas.Bool.{cases_lt}
use Rattle.std.proofs.lemmas.Cmp.{nat_list_cmp_total}
use Rattle.std.proofs.lemmas.Map.Text.{is_eq-slice_cmp}
use Rattle.std.specs.Cmp.{IsTotalOrder, tied_itself}
use Rattle.std.specs.Cmp.Lexicographic.{same_text}
use Rattle.std.specs.List.{AllByRecursion, HoldsAt}
use Rattle.std.specs.List.Sorted.{IsBinarySearchResult, IsNonDecreasingBy, IsSearchInRange, IsStrictlySortedBy}
use Rattle.std.specs.Ordering.{is_eq, ordering_index}
use Rattle.std.specs.Str.{bytes_eq}
use Rattle.std.specs.declared.cmp.Ordering.{Ordering}
use Rattle.std.specs.declared.cmp.Ordering.TheVariants.{Less, Equal, Greater}
use Rattle.occ_project.specs.Reads.{name_cmp}
use Rattle.occ_typing_lines.specs.Using.{interface_of}
use Rattle.occ_typing_lines.specs.declared.using.Import.{Import}
use Rattle.occ_typing_lines.specs.inside.Sorted.{AreSorted, AreSortedAfter, HasUnitAt, IsAfter, IsImportAt}

total : IsTotalOrder name_cmp
total = nat_list_cmp_total

-- names that the order distinguishes have other bytes
apart : (a b : List ℕ) (o : Ordering) → name_cmp a b ≡ o → bytes_eq a b ≡ is_eq o
apart a b o e = sym (is_eq-slice_cmp a b) ∙ ap is_eq e

equal_names : (a b : List ℕ) → name_cmp a b ≡ Equal → a ≡ b
equal_names a b e = same_text a b (sym (apart a b Equal e))

-- ---- in order

-- those after the first are greater
later : (x : Import) (is : List Import) → AllByRecursion (λ name. name_cmp x.unit name ≡ Less) (map (λ i. i.unit) is) → (k : ℕ) (d : Import) → k < length is → name_cmp x.unit (get_or is k d).unit ≡ Less
later x [] h k d lt = absurd (omega (arith, lt))
later x (y ∷ is) h zero d lt = h.0
later x (y ∷ is) h (suc k) d lt = later x is h.1 k d (omega (arith, lt))

-- one less than the second is less than all after it
less_all : (a b : List ℕ) (names : List (List ℕ)) → name_cmp a b ≡ Less → AllByRecursion (λ name. name_cmp b name ≡ Less) names → AllByRecursion (λ name. name_cmp a name ≡ Less) names
less_all a b [] e h = tt
less_all a b (name ∷ names) e h = (total.trans a b name e h.0, less_all a b names e h.1)

pub none_sorted : (before : Option (List ℕ)) → AreSortedAfter before []
unfolding IsStrictlySortedBy
none_sorted None = tt
none_sorted (Some before) = (tt, tt)

-- one that is after the last comes before those that are after it
pub more_sorted : (before : Option (List ℕ)) (x : Import) (is : List Import) → IsAfter before x.unit → AreSortedAfter (Some x.unit) is → AreSortedAfter before (x ∷ is)
unfolding IsStrictlySortedBy
more_sorted None x is e h = h
more_sorted (Some before) x is e h = ((e, less_all before x.unit (map (λ i. i.unit) is) e h.0), h)

-- ---- the search

below_two : (o : Ordering) → ordering_index o ≤ 2
below_two Less = omega arith
below_two Equal = omega arith
below_two Greater = omega arith

least : (o p : Ordering) → o ≡ Less → ordering_index o ≤ ordering_index p
least o p e = rw e (omega arith)

rises : (a b name : List ℕ) (o : Ordering) → name_cmp b name ≡ o → name_cmp a b ≡ Less → ordering_index (name_cmp a name) ≤ ordering_index o
rises a b name Less e l = least (name_cmp a name) Less (total.trans a b name l e)
rises a b name Equal e l = least (name_cmp a name) Equal (subst (λ (n : List ℕ). name_cmp a n ≡ Less) (equal_names b name e) l)
rises a b name Greater e l = below_two (name_cmp a name)

comparisons_rise : (name : List ℕ) (is : List Import) → AreSorted is → IsNonDecreasingBy (λ i. ordering_index (name_cmp i.unit name)) is
unfolding IsStrictlySortedBy
comparisons_rise name [] h i j d le lt = absurd (omega (arith, lt))
comparisons_rise name (x ∷ is) h zero zero d le lt = omega arith
comparisons_rise name (x ∷ is) h zero (suc j) d le lt = rises x.unit (get_or is j d).unit name (name_cmp (get_or is j d).unit name) refl (later x is h.0 j d (omega (arith, lt)))
comparisons_rise name (x ∷ is) h (suc i) zero d le lt = absurd (omega (arith, le))
comparisons_rise name (x ∷ is) h (suc i) (suc j) d le lt = comparisons_rise name is h.1 i j d (omega (arith, le)) (omega (arith, lt))

-- one that has the name is the first that has it
found_at : (name : List ℕ) (is : List Import) (at : ℕ) (d : Import) → AreSorted is → at < length is → HoldsAt (λ i. name_cmp i.unit name ≡ Equal) is at → interface_of name is ≡ (get_or is at d).interface ∷ []
unfolding IsStrictlySortedBy
found_at name [] at d s lt h = absurd (omega (arith, lt))
found_at name (x ∷ is) zero d s lt h = ap (λ (b : Bool). if b then x.interface ∷ [] else interface_of name is) (apart x.unit name Equal (h x))
found_at name (x ∷ is) (suc k) d s lt h =
    let there = equal_names (get_or is k x).unit name (h x) in
    let less : name_cmp x.unit name ≡ Less = subst (λ (n : List ℕ). name_cmp x.unit n ≡ Less) there (later x is s.0 k x (omega (arith, lt))) in
    ap (λ (b : Bool). if b then x.interface ∷ [] else interface_of name is) (apart x.unit name Less less) ∙ found_at name is k d s.1 (omega (arith, lt)) (λ e. h e)

none_found : (name : List ℕ) (is : List Import) → ((k : ℕ) (d : Import) → k < length is → bytes_eq (get_or is k d).unit name ≡ false) → interface_of name is ≡ []
none_found name [] h = refl
none_found name (x ∷ is) h = ap (λ (b : Bool). if b then x.interface ∷ [] else interface_of name is) (h 0 x (omega arith)) ∙ none_found name is (λ k d lt. h (suc k) d (omega (arith, lt)))

-- one that has the unit stands where the unit's import is found
pub standing_at : (name : List ℕ) (is : List Import) (at : ℕ) → AreSorted is → HasUnitAt name is at → IsImportAt name is at
standing_at name is at sorted has = (has.0, λ d. found_at name is at d sorted has.0 (λ e. subst (λ (n : List ℕ). name_cmp n name ≡ Equal) (sym (has.1 e)) (tied_itself total name)))

pub searched_so : (name : List ℕ) (is : List Import) → AreSorted is → (r : Result ℕ ℕ) → IsSearchInRange r (length is) → IsBinarySearchResult (λ i. name_cmp i.unit name) is r
    → MatchResult r (λ at. IsImportAt name is at) (λ at. interface_of name is ≡ [])
searched_so name is sorted (Ok at) within equal = (within, λ d. found_at name is at d sorted within equal)
searched_so name is sorted (Err at) within parted =
    let parts = parted (comparisons_rise name is sorted) in
    none_found name is (λ k d lt. elim (cases_lt k at) [
      | inl below ↦ apart (get_or is k d).unit name Less (parts.0 k d (omega arith) below)
      | inr above ↦ apart (get_or is k d).unit name Greater (parts.1 k d above lt)
    ])
