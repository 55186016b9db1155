-- Components that all use the same: they have in common what two of them have, and use together what one does.
use Rattle.std.proofs.Common.{◌≡◌, ◌∙◌, ◌++◌, ◌||◌, ℕ, zero, suc, Bool, true, false, List, [], ◌∷◌, length, replicate, if◌then◌else◌, inl, inr, refl, ap, ap₂, sym, arith}
use Rattle.std.specs.List.{list_any}
use Rattle.std.proofs.lemmas.Bool.{cases_Bool}
use Rattle.occ_base.specs.declared.diag.Diag.{Diag}
use Rattle.occ_project.specs.declared.expanded.Location.{Location}
use Rattle.occ_usage_values.specs.Uses.{at_line}
use Rattle.occ_usage_values.specs.declared.bound.Bound.{Bound}
use Rattle.occ_usage_values.specs.declared.uses.Use.{Use}
use Rattle.occ_usage_conflicts.specs.Components.{joined}
use Rattle.occ_usage_conflicts.specs.Distinct.{added, gathered, is_among, same_use}
use Rattle.occ_usage_conflicts.specs.ParallelRule.{below, clash_between, component_faults, fault_if, root_faults, some_clash}
use Rattle.occ_usage_conflicts.specs.declared.rule.Least.{Least}
use Rattle.occ_usage_conflicts.specs.declared.rule.Least.TheVariants as least
use Rattle.occ_usage_conflicts.specs.declared.rule.Rule.{Rule}
use Rattle.occ_usage_conflicts.specs.declared.rule.Rule.TheVariants as rule
use Rattle.occ_usage_conflicts.proofs.Equality.{same_exactly}

-- ---- clashes

any_copies : (r : Rule) (l : Least) (root : ℕ) (us : List Use) (n : ℕ)
    → list_any (λ (vs : List Use). clash_between r l root us vs) (replicate (suc n) us) ≡ clash_between r l root us us
any_copies r l root us zero = alone (clash_between r l root us us) where
  alone : (a : Bool) → (a || false) ≡ a
  alone true = refl
  alone false = refl
any_copies r l root us (suc n) = ap (λ (t : Bool). clash_between r l root us us || t) (any_copies r l root us n) ∙ both (clash_between r l root us us) where
  both : (a : Bool) → (a || a) ≡ a
  both true = refl
  both false = refl

copies_clash : (r : Rule) (l : Least) (root : ℕ) (us : List Use) (n : ℕ) → some_clash r l root (replicate (suc (suc n)) us) ≡ clash_between r l root us us
copies_clash r l root us zero = alone (clash_between r l root us us) where
  alone : (a : Bool) → ((a || false) || (false || false)) ≡ a
  alone true = refl
  alone false = refl
copies_clash r l root us (suc n) =
    ap₂ (λ (s t : Bool). s || t) (any_copies r l root us (suc n)) (copies_clash r l root us n) ∙ both (clash_between r l root us us) where
      both : (a : Bool) → (a || a) ≡ a
      both true = refl
      both false = refl

two_clash : (r : Rule) (l : Least) (root : ℕ) (us : List Use) (n : ℕ) → some_clash r l root (replicate (suc (suc n)) us) ≡ some_clash r l root (us ∷ us ∷ [])
two_clash r l root us n = copies_clash r l root us n ∙ sym (copies_clash r l root us zero)

below_alike : (n : ℕ) (f g : ℕ → List Diag) → ((k : ℕ) → f k ≡ g k) → below n f ≡ below n g
below_alike zero f g h = refl
below_alike (suc n) f g h = ap₂ (λ (ds es : List Diag). ds ++ es) (below_alike n f g h) (h n)

-- two components that use the same have in common what more of them have
pub copies_faults : (line : Location) (env : List Bound) (us : List Use) (n : ℕ)
    → component_faults line env (replicate (suc (suc n)) us) ≡ component_faults line env (us ∷ us ∷ [])
copies_faults line env us n = below_alike (length env) (root_faults line env (replicate (suc (suc n)) us)) (root_faults line env (us ∷ us ∷ [])) alike where
  alike : (k : ℕ) → root_faults line env (replicate (suc (suc n)) us) k ≡ root_faults line env (us ∷ us ∷ []) k
  alike k =
      ap (λ (t : Bool). fault_if t rule.Written line env k ++ fault_if (some_clash rule.Input least.May k (replicate (suc (suc n)) us)) rule.Input line env k ++ fault_if (some_clash rule.Output least.May k (replicate (suc (suc n)) us)) rule.Output line env k) (two_clash rule.Written least.May k us n)
      ∙ ap (λ (t : Bool). fault_if (some_clash rule.Written least.May k (us ∷ us ∷ [])) rule.Written line env k ++ fault_if t rule.Input line env k ++ fault_if (some_clash rule.Output least.May k (replicate (suc (suc n)) us)) rule.Output line env k) (two_clash rule.Input least.May k us n)
      ∙ ap (λ (t : Bool). fault_if (some_clash rule.Written least.May k (us ∷ us ∷ [])) rule.Written line env k ++ fault_if (some_clash rule.Input least.May k (us ∷ us ∷ [])) rule.Input line env k ++ fault_if t rule.Output line env k) (two_clash rule.Output least.May k us n)

-- ---- uses, each once

-- what a test finds among these it finds in the list that has an equal one
found_by : (p : Use → Bool) (u : Use) (found : List Use) → is_among found u ≡ true → p u ≡ true → list_any p found ≡ true
found_by p u [] h k = cc
found_by p u (x ∷ xs) h k = elim (cases_Bool (same_use x u)) [
  | inl e ↦ let f : p x ≡ true = ap p ((same_exactly x u).0 e) ∙ k in grind (arith, f)
  | inr e ↦
      let r : is_among xs u ≡ true = grind (arith, e, h) in
      let f : list_any p xs ≡ true = found_by p u xs r k in grind (arith, f)
]

any_last : (p : Use → Bool) (xs : List Use) (y : Use) → list_any p (xs ++ y ∷ []) ≡ (list_any p xs || p y)
any_last p [] y = grind arith
any_last p (x ∷ xs) y = let e : list_any p (xs ++ y ∷ []) ≡ (list_any p xs || p y) = any_last p xs y in grind (arith, e)

any_added : (p : Use → Bool) (u : Use) (found : List Use) → list_any p (added u found) ≡ (p u || list_any p found)
any_added p u found = by_test (is_among found u) refl where
  by_test : (t : Bool) → is_among found u ≡ t → list_any p (if t then found else found ++ u ∷ []) ≡ (p u || list_any p found)
  by_test true e = by_use (p u) refl where
    by_use : (s : Bool) → p u ≡ s → list_any p found ≡ (s || list_any p found)
    by_use true k = let f : list_any p found ≡ true = found_by p u found e k in grind (arith, f)
    by_use false k = refl
  by_test false e = let f : list_any p (found ++ u ∷ []) ≡ (list_any p found || p u) = any_last p found u in f ∙ turned (list_any p found) (p u) where
    turned : (a b : Bool) → (a || b) ≡ (b || a)
    turned true true = refl
    turned true false = refl
    turned false true = refl
    turned false false = refl

-- ---- uses of one line

pub gathered_both : (line : Location) (us vs found : List Use) → gathered line found (us ++ vs) ≡ gathered line (gathered line found us) vs
gathered_both line [] vs found = refl
gathered_both line (u ∷ us) vs found = gathered_both line us vs (added (at_line u line) found)

-- each of them is among those that are found
abbrev AreAmong : Location → List Use → List Use → Type 0
AreAmong line found [] = Unit {0}
AreAmong line found (u ∷ us) = (is_among found (at_line u line) ≡ true) × AreAmong line found us

or_true : (a b : Bool) → b ≡ true → (a || b) ≡ true
or_true true b e = refl
or_true false b e = e

or_first : (a b : Bool) → a ≡ true → (a || b) ≡ true
or_first true b e = refl
or_first false b e = cc

among_added : (u : Use) (found : List Use) → is_among (added u found) u ≡ true
among_added u found = any_added (λ (x : Use). same_use x u) u found ∙ or_first (same_use u u) (is_among found u) ((same_exactly u u).1 refl)

still_among : (u v : Use) (found : List Use) → is_among found u ≡ true → is_among (added v found) u ≡ true
still_among u v found h = any_added (λ (x : Use). same_use x u) v found ∙ or_true (same_use v u) (is_among found u) h

stays_among : (line : Location) (u : Use) (us found : List Use) → is_among found u ≡ true → is_among (gathered line found us) u ≡ true
stays_among line u [] found h = h
stays_among line u (x ∷ us) found h = stays_among line u us (added (at_line x line) found) (still_among u (at_line x line) found h)

all_among : (line : Location) (us found : List Use) → AreAmong line (gathered line found us) us
all_among line [] found = tt
all_among line (u ∷ us) found =
    (stays_among line (at_line u line) us (added (at_line u line) found) (among_added (at_line u line) found), all_among line us (added (at_line u line) found))

none_new : (line : Location) (us found : List Use) → AreAmong line found us → gathered line found us ≡ found
none_new line [] found h = refl
none_new line (u ∷ us) found h =
    ap (λ (t : Bool). gathered line (if t then found else found ++ at_line u line ∷ []) us) h.0 ∙ none_new line us found h.1

all_gathered : (line : Location) (n : ℕ) (us found : List Use) → AreAmong line found us → gathered line found (joined (replicate n us)) ≡ found
all_gathered line zero us found h = refl
all_gathered line (suc n) us found h =
    gathered_both line us (joined (replicate n us)) found
    ∙ ap (λ (vs : List Use). gathered line vs (joined (replicate n us))) (none_new line us found h)
    ∙ all_gathered line n us found h

-- those of components that use the same, each once, are those of one of them
pub copies_gathered : (line : Location) (n : ℕ) (us : List Use) → gathered line [] (joined (replicate (suc n) us)) ≡ gathered line [] us
copies_gathered line n us = gathered_both line us (joined (replicate n us)) [] ∙ all_gathered line n us (gathered line [] us) (all_among line us [])
