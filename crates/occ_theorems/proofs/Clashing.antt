-- The tests of the parallel rule, in plain words.
use Rattle.std.proofs.Common.{◌≡◌, ◌≢◌, ℕ, zero, suc, ◌<◌, Bool, true, false, ap, sym, subst, ◌∙◌, refl, arith, List, [], ◌∷◌, ◌++◌, Some, length, slice_get, inl, inr}
use Rattle.std.specs.Prelude.{◌&&◌, ◌↔◌, ◌==◌, ◌⊎◌, if◌then◌else◌}
use Rattle.std.specs.List.{Contains, list_any}
use Rattle.std.proofs.lemmas.List.Elements.{Contains-append_cases, Contains-append_left, Contains-append_right}
use Rattle.occ_base.specs.declared.diag.Diag.{Diag}
use Rattle.occ_usage_values.specs.declared.bound.Bound.{Bound}
use Rattle.occ_usage_values.specs.declared.uses.Use.{Use}
use Rattle.occ_usage_parts.specs.Parts.{overlap_of}
use Rattle.occ_usage_parts.proofs.Turning.{overlap_turned}
use Rattle.occ_project.specs.declared.expanded.Location.{Location as Line}
use Rattle.occ_types.specs.declared.interface.UseKind.{UseKind}
use Rattle.occ_usage_conflicts.specs.ParallelRule.{StandsIn, IsReported, IsUsedIn, SomeClash, below, clash, clash_between, component_faults, conflict, counts, fault_of, root_fault, root_faults, some_clash, target_faults, uses_clash}
use Rattle.occ_usage_conflicts.specs.declared.rule.Least.{Least}
use Rattle.occ_usage_conflicts.specs.declared.rule.Least.TheVariants as least
use Rattle.occ_usage_conflicts.specs.declared.rule.Rule.{Rule}
use Rattle.occ_usage_conflicts.specs.declared.rule.Rule.TheVariants as rule
use Rattle.occ_usage_conflicts.proofs.Clashing.{or_left, or_right, root_known, any_given, clash_found}

-- ---- tests

pub and_both : (p q : Bool) → p ≡ true → q ≡ true → (p && q) ≡ true
and_both true q h k = k
and_both false q h k = cc

root_same : (m n : ℕ) → m ≡ n → (m == n) ≡ true
root_same m n h = grind arith

-- ---- two uses

conflict_turned : (r : Rule) (k l : UseKind) → conflict r k l ≡ conflict r l k
conflict_turned rule.Written k l = grind arith
conflict_turned rule.Input k l = grind arith
conflict_turned rule.Output k l = grind arith

clash_given : (r : Rule) (l : Least) (root : ℕ) (u v : Use) → u.part.root ≡ root → v.part.root ≡ root → conflict r u.kind v.kind ≡ true
    → counts l (overlap_of u.part v.part) ≡ true → clash r l root u v ≡ true
clash_given r l root u v a b c d =
    let p = u.part.root == root in
    let q = v.part.root == root in
    let k = conflict r u.kind v.kind in
    and_both (p && q && k) (counts l (overlap_of u.part v.part))
    (and_both (p && q) k (and_both p q (root_same u.part.root root a) (root_same v.part.root root b)) c) d

turned_given : (r : Rule) (l : Least) (root : ℕ) (u v : Use) → u.part.root ≡ root → v.part.root ≡ root → conflict r u.kind v.kind ≡ true
    → counts l (overlap_of u.part v.part) ≡ true → clash r l root v u ≡ true
turned_given r l root u v a b c d =
    clash_given r l root v u b a (conflict_turned r v.kind u.kind ∙ c) (ap (counts l) (overlap_turned v.part u.part) ∙ d)

-- ---- two components

pair_given : (r : Rule) (l : Least) (root : ℕ) (cs : List (List Use)) (i j : ℕ) (us vs : List Use) → i < j → slice_get cs i ≡ Some us → slice_get cs j ≡ Some vs
    → clash_between r l root us vs ≡ true → some_clash r l root cs ≡ true
pair_given r l root [] i j us vs w a b h = cc
pair_given r l root (x ∷ cs) zero zero us vs w a b h = absurd (omega (arith, w))
pair_given r l root (x ∷ cs) (suc i) zero us vs w a b h = absurd (omega (arith, w))
pair_given r l root (x ∷ cs) zero (suc j) us vs w a b h =
    let same : x ≡ us = cc in
    or_left (list_any (λ (ws : List Use). clash_between r l root x ws) cs) (some_clash r l root cs)
    (any_given (λ (ws : List Use). clash_between r l root x ws) cs vs j b (ap (λ (y : List Use). clash_between r l root y vs) same ∙ h))
pair_given r l root (x ∷ cs) (suc i) (suc j) us vs w a b h =
    or_right (list_any (λ (ws : List Use). clash_between r l root x ws) cs) (some_clash r l root cs)
    (pair_given r l root cs i j us vs (omega (arith, w)) a b h)

between_given : (r : Rule) (l : Least) (root : ℕ) (us vs : List Use) (u v : Use) → StandsIn u us → StandsIn v vs → clash r l root u v ≡ true
    → clash_between r l root us vs ≡ true
between_given r l root us vs u v (i, a) (j, b) h =
    any_given (λ (x : Use). uses_clash r l root x vs) us u i a (any_given (λ (y : Use). clash r l root u y) vs v j b h)

pub clash_given_in : (r : Rule) (l : Least) (root : ℕ) (cs : List (List Use)) → SomeClash r l root cs → some_clash r l root cs ≡ true
clash_given_in r l root cs m = ordered (m.in_one) (m.in_other) where
  ordered : IsUsedIn cs m.one m.u → IsUsedIn cs m.other m.v → some_clash r l root cs ≡ true
  ordered (us, a, inside) (vs, b, within) = elim (sides m.one m.other m.differ) [
    | inl w ↦ pair_given r l root cs m.one m.other us vs w a b
        (between_given r l root us vs m.u m.v inside within (clash_given r l root m.u m.v m.root_of_u m.root_of_v m.kinds m.parts))
    | inr w ↦ pair_given r l root cs m.other m.one vs us w b a
        (between_given r l root vs us m.v m.u within inside (turned_given r l root m.u m.v m.root_of_u m.root_of_v m.kinds m.parts))
  ] where
    sides : (i j : ℕ) → i ≢ j → (i < j) ⊎ (j < i)
    sides zero zero d = absurd (d refl)
    sides zero (suc j) d = inl (omega arith)
    sides (suc i) zero d = inr (omega arith)
    sides (suc i) (suc j) d = elim (sides i j (λ (e : i ≡ j). d (ap suc e))) [
      | inl w ↦ inl (omega (arith, w))
      | inr w ↦ inr (omega (arith, w))
    ]

-- ---- what is reported

none_reported : (d : Diag) → Contains [] d → ⊥
none_reported d (k, w, e) = omega (arith, w)

one_reported : (x d : Diag) → Contains (x ∷ []) d → d ≡ x
one_reported x d (zero, w, e) = sym e
one_reported x d (suc k, w, e) = absurd (omega (arith, w))

below_found : (n : ℕ) (reported : ℕ → List Diag) (d : Diag) → Contains (below n reported) d → (root : ℕ) × (root < n) × Contains (reported root) d
below_found zero reported d h = absurd (none_reported d h)
below_found (suc n) reported d h = elim (Contains-append_cases (below n reported) (reported n) d h) [
  | inl before ↦ let m = below_found n reported d before in (m.0, omega (arith, m.1), m.2)
  | inr here ↦ (n, omega arith, here)
]

below_given : (n : ℕ) (reported : ℕ → List Diag) (d : Diag) (root : ℕ) → root < n → Contains (reported root) d → Contains (below n reported) d
below_given zero reported d root w h = absurd (omega (arith, w))
below_given (suc n) reported d root w h = at (root == n) refl (λ v. below_given n reported d root v h) where
  at : (t : Bool) → (root == n) ≡ t → (root < n → Contains (below n reported) d) → Contains (below n reported ++ reported n) d
  at true e before = Contains-append_right (below n reported) (reported n) d (subst (λ (k : ℕ). Contains (reported k) d) (root_known root n e) h)
  at false e before = Contains-append_left (below n reported) (reported n) d (before (let u : (root == n) ≡ false = e in grind (arith, w, u)))

fault_found : (r : Rule) (l : Least) (line : Line) (env : List Bound) (cs : List (List Use)) (root : ℕ) (d : Diag) → Contains (root_fault r l line env cs root) d
    → (d ≡ fault_of r line env root) × SomeClash r l root cs
fault_found r l line env cs root d h = by_test (some_clash r l root cs) refl h where
  by_test : (t : Bool) → some_clash r l root cs ≡ t → Contains (if t then fault_of r line env root ∷ [] else []) d
      → (d ≡ fault_of r line env root) × SomeClash r l root cs
  by_test true e k = (one_reported (fault_of r line env root) d k, clash_found r l root cs e)
  by_test false e k = absurd (none_reported d k)

fault_given : (r : Rule) (l : Least) (line : Line) (env : List Bound) (cs : List (List Use)) (root : ℕ) (d : Diag) → d ≡ fault_of r line env root
    → SomeClash r l root cs → Contains (root_fault r l line env cs root) d
fault_given r l line env cs root d is m =
    subst (λ (t : Bool). Contains (if t then fault_of r line env root ∷ [] else []) d) (sym (clash_given_in r l root cs m))
    (subst (λ (x : Diag). Contains (x ∷ []) d) is (0, omega arith, refl))

pub targets_law : (line : Line) (env : List Bound) (cs : List (List Use)) (d : Diag) → Contains (target_faults line env cs) d ↔ IsReported rule.Written least.Must line env cs d
targets_law line env cs d = (found, given) where
  found : Contains (target_faults line env cs) d → IsReported rule.Written least.Must line env cs d
  found h =
      let m = below_found (length env) (root_fault rule.Written least.Must line env cs) d h in
      let f = fault_found rule.Written least.Must line env cs (m.0) d (m.2) in
      (m.0, m.1, f.0, f.1)

  given : IsReported rule.Written least.Must line env cs d → Contains (target_faults line env cs) d
  given (root, w, is, m) = below_given (length env) (root_fault rule.Written least.Must line env cs) d root w (fault_given rule.Written least.Must line env cs root d is m)

pub reported_law : (line : Line) (env : List Bound) (cs : List (List Use)) (d : Diag) → Contains (component_faults line env cs) d ↔ ((r : Rule) × IsReported r least.May line env cs d)
reported_law line env cs d = (found, given) where
  of_rule : (r : Rule) (root : ℕ) → root < length env → Contains (root_fault r least.May line env cs root) d → (q : Rule) × IsReported q least.May line env cs d
  of_rule r root w h = let f = fault_found r least.May line env cs root d h in (r, (root, w, f.0, f.1))

  of_root : (root : ℕ) → root < length env → Contains (root_faults line env cs root) d → (q : Rule) × IsReported q least.May line env cs d
  of_root root w h =
      elim (Contains-append_cases (root_fault rule.Written least.May line env cs root ++ root_fault rule.Input least.May line env cs root) (root_fault rule.Output least.May line env cs root) d h) [
        | inl first ↦ elim (Contains-append_cases (root_fault rule.Written least.May line env cs root) (root_fault rule.Input least.May line env cs root) d first) [
          | inl in_written ↦ of_rule rule.Written root w in_written
          | inr in_input ↦ of_rule rule.Input root w in_input
        ]
        | inr in_output ↦ of_rule rule.Output root w in_output
      ]

  found : Contains (component_faults line env cs) d → (q : Rule) × IsReported q least.May line env cs d
  found h = let m = below_found (length env) (root_faults line env cs) d h in of_root (m.0) (m.1) (m.2)

  at_root : (r : Rule) (root : ℕ) → Contains (root_fault r least.May line env cs root) d → Contains (root_faults line env cs root) d
  at_root rule.Written root h =
      Contains-append_left (root_fault rule.Written least.May line env cs root ++ root_fault rule.Input least.May line env cs root) (root_fault rule.Output least.May line env cs root) d
      (Contains-append_left (root_fault rule.Written least.May line env cs root) (root_fault rule.Input least.May line env cs root) d h)
  at_root rule.Input root h =
      Contains-append_left (root_fault rule.Written least.May line env cs root ++ root_fault rule.Input least.May line env cs root) (root_fault rule.Output least.May line env cs root) d
      (Contains-append_right (root_fault rule.Written least.May line env cs root) (root_fault rule.Input least.May line env cs root) d h)
  at_root rule.Output root h =
      Contains-append_right (root_fault rule.Written least.May line env cs root ++ root_fault rule.Input least.May line env cs root) (root_fault rule.Output least.May line env cs root) d h

  given : (r : Rule) × IsReported r least.May line env cs d → Contains (component_faults line env cs) d
  given (r, (root, w, is, m)) = below_given (length env) (root_faults line env cs) d root w (at_root r root (fault_given r least.May line env cs root d is m))
