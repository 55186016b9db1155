-- What the comparison of selectors says of the elements that are selected.
use Rattle.std.proofs.Common.{◌≡◌, ℕ, Bool, true, false, refl, arith, List, [], ◌∷◌, ◌++◌}
use Rattle.std.specs.Prelude.{◌||◌, ◌↔◌, ◌==◌, if◌then◌else◌}
use Rattle.occ_types.specs.declared.interface.PartSelector.{PartSelector}
use Rattle.occ_usage_parts.specs.declared.part.Overlap.{Overlap}
use Rattle.occ_usage_parts.specs.declared.part.Overlap.TheVariants as o
use Rattle.occ_usage_parts.specs.declared.part.Part.{Part}
use Rattle.occ_usage_parts.specs.Parts.{Meet, Step, all_sure, are_apart, has_empty, lies, overlap_of, selects, some_differ}
use Rattle.occ_usage_parts.proofs.Elements.{or_left, and_left, and_right, steps_of_one, apart_met, met_apart}

-- ---- laws of the overlap

-- apart exactly if no element lies in both, and surely not exactly if one does and all selectors that are compared are sure
root_known : (m n : ℕ) → (m == n) ≡ true → m ≡ n
root_known m n h = grind arith

root_same : (m n : ℕ) → m ≡ n → (m == n) ≡ true
root_same m n h = grind arith

abbrev verdict : Bool → Bool → Bool → Overlap
verdict root parted sure = if root then (if parted then o.Apart else if sure then o.Must else o.May) else o.Apart

not_apart : (c d e : Bool) → verdict c d e ≡ o.Apart → c ≡ true → d ≡ false → ⊥
not_apart true true e h r a = cc
not_apart true false true h r a = cc
not_apart true false false h r a = cc
not_apart false d e h r a = cc

is_apart : (c d e : Bool) → (c ≡ true → d ≡ false → ⊥) → verdict c d e ≡ o.Apart
is_apart true true e none = refl
is_apart true false e none = absurd (none refl refl)
is_apart false d e none = refl

is_must : (c d e : Bool) → c ≡ true → d ≡ false → e ≡ true → verdict c d e ≡ o.Must
is_must true false true h k l = refl
is_must true false false h k l = cc
is_must true true e h k l = cc
is_must false d e h k l = cc

must_root : (c d e : Bool) → verdict c d e ≡ o.Must → c ≡ true
must_root true d e h = refl
must_root false d e h = cc

must_meet : (c d e : Bool) → verdict c d e ≡ o.Must → d ≡ false
must_meet c false e h = refl
must_meet true true e h = cc
must_meet false true e h = cc

must_sure : (c d e : Bool) → verdict c d e ≡ o.Must → e ≡ true
must_sure c d true h = refl
must_sure true true false h = cc
must_sure true false false h = cc
must_sure false d false h = cc

pub apart_law : (a b : Part) → (overlap_of a b ≡ o.Apart) ↔ (a.root ≡ b.root → Meet a.selectors b.selectors → ⊥)
apart_law a b = (
  (λ h r met. not_apart (a.root == b.root) (are_apart a.selectors b.selectors) (all_sure a.selectors b.selectors) h (root_same a.root b.root r) (met_apart a.selectors b.selectors met)),
  (λ none. is_apart (a.root == b.root) (are_apart a.selectors b.selectors) (all_sure a.selectors b.selectors) (λ r d. none (root_known a.root b.root r) (apart_met a.selectors b.selectors d))),
)

pub must_law : (a b : Part) → (overlap_of a b ≡ o.Must) ↔ ((a.root ≡ b.root) × Meet a.selectors b.selectors × (all_sure a.selectors b.selectors ≡ true))
must_law a b =
    let c = a.root == b.root in
    let d = are_apart a.selectors b.selectors in
    let e = all_sure a.selectors b.selectors in (
      (λ h. (root_known a.root b.root (must_root c d e h), apart_met a.selectors b.selectors (must_meet c d e h), must_sure c d e h)),
      (λ (r, met, sure). is_must c d e (root_same a.root b.root r) (met_apart a.selectors b.selectors met) sure),
    )

pub empty_apart : (a b : Part) → has_empty a.selectors ≡ true → overlap_of a b ≡ o.Apart
empty_apart a b h = is_apart (a.root == b.root) (are_apart a.selectors b.selectors) (all_sure a.selectors b.selectors) (λ r d. none d) where
  none : are_apart a.selectors b.selectors ≡ false → ⊥
  none d = let e : has_empty a.selectors ≡ false = or_left (has_empty a.selectors) (has_empty b.selectors) (or_left (has_empty a.selectors || has_empty b.selectors) (some_differ a.selectors b.selectors) d) in cc

lies_before : (xs more : List PartSelector) (ts : List Step) → lies (xs ++ more) ts ≡ true → lies xs ts ≡ true
lies_before [] more ts h = refl
lies_before (x ∷ xs) more [] h = cc
lies_before (x ∷ xs) more (t ∷ ts) h =
    let a : selects x t ≡ true = and_left (selects x t) (lies (xs ++ more) ts) h in
    let b : lies xs ts ≡ true = lies_before xs more ts (and_right (selects x t) (lies (xs ++ more) ts) h) in
    grind (arith, a, b)

-- a longer part of the same selectors has an element in common with the shorter one
pub longer_met : (xs more : List PartSelector) → has_empty (xs ++ more) ≡ false → are_apart xs (xs ++ more) ≡ false
longer_met xs more h =
    let found = steps_of_one (xs ++ more) h in
    met_apart xs (xs ++ more) (found.0, lies_before xs more (found.0) (found.1), found.1)

longer_case : (c d e : Bool) → c ≡ true → d ≡ false → verdict c d e ≡ o.Apart → ⊥
longer_case c d e r m h = not_apart c d e h r m

pub longer_law : (root : ℕ) (xs more : List PartSelector) → has_empty (xs ++ more) ≡ false
    → overlap_of (record { root = root; selectors = xs }) (record { root = root; selectors = xs ++ more }) ≡ o.Apart → ⊥
longer_law root xs more h = longer_case (root == root) (are_apart xs (xs ++ more)) (all_sure xs (xs ++ more)) (root_same root root refl) (longer_met xs more h)
