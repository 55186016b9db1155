-- Where uses stand, and roots that have none.
use Rattle.std.proofs.Common.{◌≡◌, ◌≢◌, ◌∙◌, ◌≤◌, ◌<◌, ℕ, zero, suc, Bool, true, false, List, [], ◌∷◌, Some, slice_get, slice_set, ap, sym, refl, arith, inl, inr, subst}
use Rattle.occ_usage_values.specs.declared.bound.Bound.{Bound}
use Rattle.occ_usage_values.specs.declared.uses.Use.{Use}
use Rattle.occ_project.specs.declared.expanded.Location.{Location}
use Rattle.occ_usage_conflicts.specs.ParallelRule.{below, fault_if, root_fault, root_faults, some_clash}
use Rattle.occ_usage_conflicts.specs.declared.rule.Least.{Least}
use Rattle.occ_usage_conflicts.specs.declared.rule.Least.TheVariants as least
use Rattle.occ_usage_conflicts.specs.declared.rule.Rule.{Rule}
use Rattle.occ_usage_conflicts.specs.declared.rule.Rule.TheVariants as rule
use Rattle.occ_usage_conflicts.specs.declared.presence.Presence.{Presence}
use Rattle.occ_usage_conflicts.specs.declared.presence.Presence.TheVariants as presence
use Rattle.occ_usage_conflicts.specs.inside.Presences.{IsIn, MayBeIn}
use Rattle.occ_usage_conflicts.proofs.Clashing.{clash_found}
use Rattle.occ_usage_conflicts.proofs.Reaching.{below_cut, no_root_faults}

-- ---- one more use

one_stand : (a b : Presence) → Some a ≡ Some b → a ≡ b
one_stand a b e = cc

pub set_kept : (stands : List Presence) (root other i : ℕ) (stand next : Presence) → slice_get stands root ≡ Some stand → (MayBeIn stand i → MayBeIn next i) → IsIn stands other i → IsIn (slice_set stands root next) other i
set_kept [] root other i stand next at kept is = is
set_kept (s ∷ ss) zero zero i stand next at kept is = (next, refl, kept (subst (λ (x : Presence). MayBeIn x i) (one_stand is.0 stand (sym is.1 ∙ at)) is.2))
set_kept (s ∷ ss) zero (suc other) i stand next at kept is = is
set_kept (s ∷ ss) (suc root) zero i stand next at kept is = is
set_kept (s ∷ ss) (suc root) (suc other) i stand next at kept is = set_kept ss root other i stand next at kept is

-- ---- a root that is in one component

in_several : (stand : Presence) (i j : ℕ) → stand ≢ presence.Several → MayBeIn stand i → MayBeIn stand j → i ≡ j
in_several stand i j other (inl a) (inl b) = same (presence.One i) (presence.One j) (sym a ∙ b) where
  number_of : Presence → ℕ
  number_of presence.Nowhere = 0
  number_of (presence.One n) = n
  number_of presence.Several = 0

  same : (x y : Presence) → x ≡ y → number_of x ≡ number_of y
  same x y e = ap number_of e
in_several stand i j other (inr a) b = absurd (other a)
in_several stand i j other (inl a) (inr b) = absurd (other b)

pub apart_presence : (r : Rule) (l : Least) (root : ℕ) (components : List (List Use)) (stands : List Presence) (stand : Presence)
    → ((i k : ℕ) (us : List Use) (u : Use) → slice_get components i ≡ Some us → slice_get us k ≡ Some u → u.part.root ≡ root → IsIn stands root i)
    → slice_get stands root ≡ Some stand → stand ≢ presence.Several → some_clash r l root components ≡ false
apart_presence r l root components stands stand noted at other = by_test (some_clash r l root components) refl where
  by_test : (t : Bool) → some_clash r l root components ≡ t → t ≡ false
  by_test false e = refl
  by_test true e =
      let m = clash_found r l root components e in
      let one = noted m.one (m.in_one.2.0) (m.in_one.0) m.u (m.in_one.1) (m.in_one.2.1) m.root_of_u in
      let another = noted m.other (m.in_other.2.0) (m.in_other.0) m.v (m.in_other.1) (m.in_other.2.1) m.root_of_v in
      let here : MayBeIn stand m.one = subst (λ (x : Presence). MayBeIn x m.one) (one_stand one.0 stand (sym one.1 ∙ at)) one.2 in
      let there : MayBeIn stand m.other = subst (λ (x : Presence). MayBeIn x m.other) (one_stand another.0 stand (sym another.1 ∙ at)) another.2 in
      absurd (m.differ (in_several stand m.one m.other other here there))

-- ---- roots without a use

pub no_clash_between : (r : Rule) (l : Least) (root from next : ℕ) (components : List (List Use))
    → ((i k : ℕ) (us : List Use) (u : Use) → slice_get components i ≡ Some us → slice_get us k ≡ Some u → from ≤ u.part.root → next ≤ u.part.root)
    → from ≤ root → root < next → some_clash r l root components ≡ false
no_clash_between r l root from next components none a b = by_test (some_clash r l root components) refl where
  by_test : (t : Bool) → some_clash r l root components ≡ t → t ≡ false
  by_test false e = refl
  by_test true e =
      let m = clash_found r l root components e in
      let is : m.u.part.root ≡ root = m.root_of_u in
      let beyond : next ≤ m.u.part.root = none m.one (m.in_one.2.0) (m.in_one.0) m.u (m.in_one.1) (m.in_one.2.1) (omega (arith, is, a)) in
      absurd (omega (arith, is, beyond, b))

pub skipped_targets : (line : Location) (env : List Bound) (components : List (List Use)) (from next : ℕ) → from ≤ next
    → ((r : Rule) (l : Least) (root : ℕ) → from ≤ root → root < next → some_clash r l root components ≡ false)
    → below next (root_fault rule.Written least.Must line env components) ≡ below from (root_fault rule.Written least.Must line env components)
skipped_targets line env components from next w none =
    below_cut from next (root_fault rule.Written least.Must line env components) w (λ k a b. ap (λ (x : Bool). fault_if x rule.Written line env k) (none rule.Written least.Must k a b))

pub skipped_roots : (line : Location) (env : List Bound) (components : List (List Use)) (from next : ℕ) → from ≤ next
    → ((r : Rule) (l : Least) (root : ℕ) → from ≤ root → root < next → some_clash r l root components ≡ false)
    → below next (root_faults line env components) ≡ below from (root_faults line env components)
skipped_roots line env components from next w none =
    below_cut from next (root_faults line env components) w (λ k a b. no_root_faults line env components k (λ r. none r least.May k a b))
