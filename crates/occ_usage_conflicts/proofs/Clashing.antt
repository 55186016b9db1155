-- The tests of the parallel rule, in plain words.
use Rattle.std.proofs.Common.{◌≡◌, ◌≢◌, ℕ, zero, suc, Bool, true, false, ap, ◌∙◌, refl, arith, List, [], ◌∷◌, Some, slice_get}
use Rattle.std.specs.Prelude.{◌&&◌, ◌||◌, ◌==◌}
use Rattle.std.specs.List.{list_any}
use Rattle.occ_usage_values.specs.declared.uses.Use.{Use}
use Rattle.occ_usage_parts.specs.Parts.{overlap_of}
use Rattle.occ_usage_conflicts.specs.ParallelRule.{StandsIn, IsUsedIn, SomeClash, clash, clash_between, conflict, counts, some_clash, uses_clash}
use Rattle.occ_usage_conflicts.specs.declared.rule.Least.{Least}
use Rattle.occ_usage_conflicts.specs.declared.rule.Rule.{Rule}

-- ---- tests

pub either : {X : Type 0} (p q : Bool) → (p || q) ≡ true → (p ≡ true → X) → (q ≡ true → X) → X
either true q h f g = f refl
either false q h f g = g h

pub or_left : (p q : Bool) → p ≡ true → (p || q) ≡ true
or_left true q h = refl
or_left false q h = cc

pub or_right : (p q : Bool) → q ≡ true → (p || q) ≡ true
or_right true q h = refl
or_right false q h = h

pub and_left : (p q : Bool) → (p && q) ≡ true → p ≡ true
and_left true q h = refl
and_left false q h = cc

pub and_right : (p q : Bool) → (p && q) ≡ true → q ≡ true
and_right true q h = h
and_right false q h = cc

pub root_known : (m n : ℕ) → (m == n) ≡ true → m ≡ n
root_known m n h = grind arith

pub any_found : {X : Type 0} (p : X → Bool) (xs : List X) → list_any p xs ≡ true → (x : X) × StandsIn x xs × (p x ≡ true)
any_found p [] h = cc
any_found p (x ∷ xs) h =
    either (p x) (list_any p xs) h
    (λ e. (x, (0, refl), e))
    (λ e. let m = any_found p xs e in (m.0, (suc (m.1.0), m.1.1), m.2))

pub any_given : {X : Type 0} (p : X → Bool) (xs : List X) (x : X) (k : ℕ) → slice_get xs k ≡ Some x → p x ≡ true → list_any p xs ≡ true
any_given p [] x k at h = cc
any_given p (y ∷ ys) x zero at h = let same : y ≡ x = cc in or_left (p y) (list_any p ys) (ap p same ∙ h)
any_given p (y ∷ ys) x (suc k) at h = or_right (p y) (list_any p ys) (any_given p ys x k at h)

-- ---- two components

found_at : (r : Rule) (l : Least) (root : ℕ) (cs : List (List Use)) (i j : ℕ) (u v : Use) → i ≢ j → IsUsedIn cs i u → IsUsedIn cs j v
    → clash r l root u v ≡ true → SomeClash r l root cs
found_at r l root cs i j u v differ a b h =
    let p = u.part.root == root in
    let q = v.part.root == root in
    let c = conflict r u.kind v.kind in
    let d = counts l (overlap_of u.part v.part) in
    let kinds = and_left (p && q && c) d h in
    let roots = and_left (p && q) c kinds in
    record {
      one = i;
      other = j;
      differ = differ;
      u = u;
      v = v;
      in_one = a;
      in_other = b;
      root_of_u = root_known u.part.root root (and_left p q roots);
      root_of_v = root_known v.part.root root (and_right p q roots);
      kinds = and_right (p && q) c kinds;
      parts = and_right (p && q && c) d h;
    }

one_more : (r : Rule) (l : Least) (root : ℕ) (us : List Use) (cs : List (List Use)) → SomeClash r l root cs → SomeClash r l root (us ∷ cs)
one_more r l root us cs m = record {
  one = suc m.one;
  other = suc m.other;
  differ = λ (e : suc m.one ≡ suc m.other). m.differ (omega (arith, e));
  u = m.u;
  v = m.v;
  in_one = m.in_one;
  in_other = m.in_other;
  root_of_u = m.root_of_u;
  root_of_v = m.root_of_v;
  kinds = m.kinds;
  parts = m.parts;
}

first_and : (r : Rule) (l : Least) (root : ℕ) (us : List Use) (cs : List (List Use)) → list_any (λ (vs : List Use). clash_between r l root us vs) cs ≡ true
    → SomeClash r l root (us ∷ cs)
first_and r l root us cs h =
    let m = any_found (λ (vs : List Use). clash_between r l root us vs) cs h in
    let a = any_found (λ (u : Use). uses_clash r l root u (m.0)) us (m.2) in
    let b = any_found (λ (v : Use). clash r l root (a.0) v) (m.0) (a.2) in
    found_at r l root (us ∷ cs) 0 (suc (m.1.0)) (a.0) (b.0) (λ (e : 0 ≡ suc (m.1.0)). omega (arith, e)) (us, refl, a.1) (m.0, m.1.1, b.1) (b.2)

pub clash_found : (r : Rule) (l : Least) (root : ℕ) (cs : List (List Use)) → some_clash r l root cs ≡ true → SomeClash r l root cs
clash_found r l root [] h = cc
clash_found r l root (us ∷ cs) h =
    either (list_any (λ (vs : List Use). clash_between r l root us vs) cs) (some_clash r l root cs) h
    (λ e. first_and r l root us cs e)
    (λ e. one_more r l root us cs (clash_found r l root cs e))
