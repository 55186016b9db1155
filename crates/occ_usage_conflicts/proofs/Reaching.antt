-- Roots in which no components clash.
use Rattle.std.proofs.Common.{◌≡◌, ℕ, zero, suc, ◌<◌, ◌≤◌, Bool, true, false, ap, sym, ◌∙◌, refl, arith, List, [], ◌∷◌, ◌++◌, Some, length, slice_get}
use Rattle.std.specs.Prelude.{◌==◌}
use Rattle.std.proofs.lemmas.List.{append-nil}
use Rattle.occ_base.specs.declared.diag.Diag.{Diag}
use Rattle.occ_usage_values.specs.declared.bound.Bound.{Bound}
use Rattle.occ_usage_values.specs.declared.uses.Use.{Use}
use Rattle.occ_project.specs.declared.expanded.Location.{Location}
use Rattle.occ_usage_conflicts.specs.ParallelRule.{below, component_faults, fault_if, root_faults, some_clash}
use Rattle.occ_usage_conflicts.specs.declared.rule.Least.TheVariants as least
use Rattle.occ_usage_conflicts.specs.declared.rule.Rule.{Rule}
use Rattle.occ_usage_conflicts.specs.declared.rule.Rule.TheVariants as rule
use Rattle.occ_usage_conflicts.proofs.Clashing.{clash_found}

-- none after the last root of a use
pub no_clash : (r : Rule) (root last : ℕ) (cs : List (List Use)) → ((k j : ℕ) (us : List Use) (u : Use) → slice_get cs k ≡ Some us → slice_get us j ≡ Some u → u.part.root ≤ last)
    → last < root → some_clash r least.May root cs ≡ false
no_clash r root last cs reaches w = by_test (some_clash r least.May root cs) refl where
  by_test : (t : Bool) → some_clash r least.May root cs ≡ t → t ≡ false
  by_test false e = refl
  by_test true e =
      let m = clash_found r least.May root cs e in
      let k : m.u.part.root ≤ last = reaches m.one (m.in_one.2.0) (m.in_one.0) m.u (m.in_one.1) (m.in_one.2.1) in
      let is : m.u.part.root ≡ root = m.root_of_u in absurd (omega (arith, k, is, w))

-- ---- what is reported

below_none : (n : ℕ) (f : ℕ → List Diag) → ((k : ℕ) → f k ≡ []) → below n f ≡ []
below_none zero f h = refl
below_none (suc n) f h = ap (λ (ds : List Diag). ds ++ f n) (below_none n f h) ∙ h n

pub few_faults : (line : Location) (env : List Bound) (cs : List (List Use)) → length cs < 2 → component_faults line env cs ≡ []
few_faults line env [] w = below_none (length env) (root_faults line env []) (λ k. refl)
few_faults line env (c ∷ []) w = below_none (length env) (root_faults line env (c ∷ [])) (λ k. refl)
few_faults line env (c ∷ d ∷ cs) w = absurd (omega (arith, w))

pub below_cut : (m n : ℕ) (f : ℕ → List Diag) → m ≤ n → ((k : ℕ) → m ≤ k → k < n → f k ≡ []) → below n f ≡ below m f
below_cut m zero f w h = let e : zero ≡ m = omega (arith, w) in ap (λ (k : ℕ). below k f) e
below_cut m (suc n) f w h = by_test (m == suc n) refl (λ v. below_cut m n f v (λ k a b. h k a (omega (arith, b)))) where
  by_test : (t : Bool) → (m == suc n) ≡ t → (m ≤ n → below n f ≡ below m f) → below (suc n) f ≡ below m f
  by_test true e before = let is : suc n ≡ m = grind (arith, e) in ap (λ (k : ℕ). below k f) is
  by_test false e before =
      let v : m ≤ n = grind (arith, e, w) in
      ap (λ (ds : List Diag). below n f ++ ds) (h n v (omega arith)) ∙ append-nil (below n f) ∙ before v

-- of a root in which nothing clashes by any rule
pub no_root_faults : (line : Location) (env : List Bound) (cs : List (List Use)) (k : ℕ) → ((r : Rule) → some_clash r least.May k cs ≡ false) → root_faults line env cs k ≡ []
no_root_faults line env cs k h =
    ap (λ (x : Bool). fault_if x rule.Written line env k ++ fault_if (some_clash rule.Input least.May k cs) rule.Input line env k ++ fault_if (some_clash rule.Output least.May k cs) rule.Output line env k) (h rule.Written)
    ∙ ap (λ (x : Bool). fault_if x rule.Input line env k ++ fault_if (some_clash rule.Output least.May k cs) rule.Output line env k) (h rule.Input)
    ∙ ap (λ (x : Bool). fault_if x rule.Output line env k) (h rule.Output)

pub cut_faults : (line : Location) (env : List Bound) (cs : List (List Use)) (count : ℕ) → count ≤ length env
    → ((r : Rule) (root : ℕ) → count ≤ root → root < length env → some_clash r least.May root cs ≡ false)
    → below count (root_faults line env cs) ≡ component_faults line env cs
cut_faults line env cs count w h = sym (below_cut count (length env) (root_faults line env cs) w (λ k a b. no_root_faults line env cs k (λ r. h r k a b)))
