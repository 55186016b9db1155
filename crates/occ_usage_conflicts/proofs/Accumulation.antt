-- What is kept of the uses of components reports by which rules they clash.
use Rattle.std.proofs.Common.{◌≡◌, ◌≢◌, ℕ, zero, suc, ◌<◌, ◌+◌, add-one, Bool, true, false, not, ap, sym, subst, ◌∙◌, refl, arith, List, [], ◌∷◌, ◌++◌, append_assoc, Option, Some, None, length, slice_get, slice_set, inl, inr}
use Rattle.std.specs.Prelude.{◌&&◌, ◌||◌, ◌==◌, ◌⊎◌, if◌then◌else◌, Result, Ok, Err, OnOk}
use Rattle.std.specs.List.{list_any}
use Rattle.std.proofs.lemmas.List.{append-nil}
use Rattle.std.proofs.lemmas.List.Folds.{list_any-append}
use Rattle.occ_base.specs.declared.diag.Diag.{Diag}
use Rattle.occ_usage_values.specs.declared.bound.Bound.{Bound}
use Rattle.occ_usage_values.specs.declared.uses.Use.{Use}
use Rattle.occ_usage_parts.specs.Keeping.{meets_some}
use Rattle.occ_usage_parts.specs.Parts.{all_sure, are_apart, overlap_of}
use Rattle.occ_usage_parts.specs.declared.part.Overlap.TheVariants as o
use Rattle.occ_usage_parts.specs.declared.part.Part.{Part}
use Rattle.occ_project.specs.declared.expanded.Location.{Location}
use Rattle.occ_types.specs.declared.interface.PartSelector.{PartSelector}
use Rattle.occ_types.specs.declared.interface.UseKind.{UseKind}
use Rattle.occ_types.specs.declared.interface.UseKind.TheVariants as kind
use Rattle.occ_usage_conflicts.specs.Components.{joined}
use Rattle.occ_usage_conflicts.specs.Distinct.{same_selectors}
use Rattle.occ_usage_conflicts.specs.Kinds.{is_input, is_output, is_read, is_write}
use Rattle.occ_usage_conflicts.specs.ParallelRule.{StandsIn, below, clash, clash_between, conflict, counts, fault_if, root_faults, some_clash, uses_clash}
use Rattle.occ_usage_conflicts.specs.declared.accumulate.RootUses.{RootUses}
use Rattle.occ_usage_conflicts.specs.declared.rule.Least.TheVariants as least
use Rattle.occ_usage_conflicts.specs.declared.rule.Rule.{Rule}
use Rattle.occ_usage_conflicts.specs.declared.rule.Rule.TheVariants as rule
use Rattle.occ_usage_conflicts.specs.inside.Accumulating.{Adds, IsTable, Knows, breaks, broken_faults, faults_in, is_broken, is_of, judged, judged_at, judged_by, judged_in, parts_of, some_meets}
use Rattle.occ_usage_conflicts.proofs.Clashing.{any_found, any_given}
use Rattle.occ_usage_conflicts.proofs.Equality.{selectors_exactly}
use Rattle.occ_usage_conflicts.proofs.Once.{get_push}

-- ---- lists

pub get_set : {X : Type 0} (xs : List X) (i : ℕ) (y : X) (j : ℕ) (r : X) → slice_get (slice_set xs i y) j ≡ Some r
    → ((j ≡ i) × (y ≡ r)) ⊎ ((j ≢ i) × (slice_get xs j ≡ Some r))
get_set [] i y j r h = cc
get_set (x ∷ xs) zero y zero r h = inl (refl, cc)
get_set (x ∷ xs) zero y (suc j) r h = inr ((λ (e : suc j ≡ zero). omega (arith, e)), h)
get_set (x ∷ xs) (suc i) y zero r h = inr ((λ (e : zero ≡ suc i). omega (arith, e)), h)
get_set (x ∷ xs) (suc i) y (suc j) r h = elim (get_set xs i y j r h) [
  | inl m ↦ inl (ap suc (m.0), m.1)
  | inr m ↦ inr ((λ (e : suc j ≡ suc i). m.0 (omega (arith, e))), m.1)
]

pub set_length : {X : Type 0} (xs : List X) (i : ℕ) (y : X) → length (slice_set xs i y) ≡ length xs
set_length [] i y = refl
set_length (x ∷ xs) zero y = refl
set_length (x ∷ xs) (suc i) y = ap suc (set_length xs i y)

pub get_within : {X : Type 0} (xs : List X) (k : ℕ) → k < length xs → (x : X) × (slice_get xs k ≡ Some x)
get_within [] k w = absurd (omega (arith, w))
get_within (x ∷ xs) zero w = (x, refl)
get_within (x ∷ xs) (suc k) w = get_within xs k (omega (arith, w))

any_none : {X : Type 0} (p : X → Bool) (xs : List X) → ((x : X) → p x ≡ false) → list_any p xs ≡ false
any_none p [] h = refl
any_none p (x ∷ xs) h = let a : p x ≡ false = h x in let b : list_any p xs ≡ false = any_none p xs h in grind (arith, a, b)

pub any_last : {X : Type 0} (p : X → Bool) (xs : List X) (y : X) → list_any p (xs ++ y ∷ []) ≡ (list_any p xs || p y)
any_last p [] y = grind arith
any_last p (x ∷ xs) y = let e : list_any p (xs ++ y ∷ []) ≡ (list_any p xs || p y) = any_last p xs y in grind (arith, e)

any_or : {X : Type 0} (p q : X → Bool) (xs : List X) → list_any (λ (x : X). p x || q x) xs ≡ (list_any p xs || list_any q xs)
any_or p q [] = refl
any_or p q (x ∷ xs) = let e : list_any (λ (y : _). p y || q y) xs ≡ (list_any p xs || list_any q xs) = any_or p q xs in grind (arith, e)

any_same : {X : Type 0} (p q : X → Bool) (xs : List X) → ((x : X) → p x ≡ q x) → list_any p xs ≡ list_any q xs
any_same p q [] h = refl
any_same p q (x ∷ xs) h = let a : p x ≡ q x = h x in let b : list_any p xs ≡ list_any q xs = any_same p q xs h in grind (arith, a, b)

pub joined_last : (us : List (List Use)) (vs : List Use) → joined (us ++ vs ∷ []) ≡ joined us ++ vs
joined_last [] vs = append-nil vs
joined_last (u ∷ us) vs = ap (λ (ws : List Use). u ++ ws) (joined_last us vs) ∙ sym (append_assoc u (joined us) vs)

-- ---- one use more in the last component

root_own : (m : ℕ) → (m == m) ≡ true
root_own m = grind arith

roots_apart : (m n : ℕ) → m ≢ n → (m == n) ≡ false
roots_apart m n d = by_test (m == n) refl where
  by_test : (t : Bool) → (m == n) ≡ t → t ≡ false
  by_test true e = absurd (d (let f : (m == n) ≡ true = e in grind (arith, f)))
  by_test false e = refl

-- a use clashes with one of these
abbrev clashes_with : Rule → ℕ → List Use → Use → Bool
clashes_with r root us v = list_any (λ (u : Use). clash r least.May root u v) us

between_last : (r : Rule) (root : ℕ) (us vs : List Use) (v : Use)
    → clash_between r least.May root us (vs ++ v ∷ []) ≡ (clash_between r least.May root us vs || clashes_with r root us v)
between_last r root us vs v =
    any_same (λ (u : Use). uses_clash r least.May root u (vs ++ v ∷ [])) (λ (u : Use). uses_clash r least.May root u vs || clash r least.May root u v) us
    (λ u. any_last (λ (w : Use). clash r least.May root u w) vs v)
    ∙ any_or (λ (u : Use). uses_clash r least.May root u vs) (λ (u : Use). clash r least.May root u v) us

between_none : (r : Rule) (root : ℕ) (us : List Use) → clash_between r least.May root us [] ≡ false
between_none r root us = any_none (λ (u : Use). uses_clash r least.May root u []) us (λ u. refl)

clash_last : (r : Rule) (root : ℕ) (cs : List (List Use)) (vs : List Use)
    → some_clash r least.May root (cs ++ vs ∷ []) ≡ (some_clash r least.May root cs || clash_between r least.May root (joined cs) vs)
clash_last r root [] vs = refl
clash_last r root (us ∷ cs) vs =
    let rest : some_clash r least.May root (cs ++ vs ∷ []) ≡ (some_clash r least.May root cs || clash_between r least.May root (joined cs) vs) = clash_last r root cs vs in
    let first : list_any (λ (ws : List Use). clash_between r least.May root us ws) (cs ++ vs ∷ [])
    ≡ (list_any (λ (ws : List Use). clash_between r least.May root us ws) cs || clash_between r least.May root us vs)
    = any_last (λ (ws : List Use). clash_between r least.May root us ws) cs vs in
    let all : clash_between r least.May root (us ++ joined cs) vs ≡ (clash_between r least.May root us vs || clash_between r least.May root (joined cs) vs)
    = list_any-append (λ (u : Use). uses_clash r least.May root u vs) us (joined cs) in
    both (list_any (λ (ws : List Use). clash_between r least.May root us ws) (cs ++ vs ∷ [])) (some_clash r least.May root (cs ++ vs ∷ []))
    (list_any (λ (ws : List Use). clash_between r least.May root us ws) cs) (clash_between r least.May root us vs) (some_clash r least.May root cs)
    (clash_between r least.May root (joined cs) vs) (clash_between r least.May root (us ++ joined cs) vs) first rest all where
      both : (p q a b c d e : Bool) → p ≡ (a || b) → q ≡ (c || d) → e ≡ (b || d) → (p || q) ≡ ((a || c) || e)
      both p q a b c d e f g h = grind (arith, f, g, h)

clash_more : (r : Rule) (root : ℕ) (cs : List (List Use)) (vs : List Use) (v : Use)
    → some_clash r least.May root (cs ++ (vs ++ v ∷ []) ∷ []) ≡ (some_clash r least.May root (cs ++ vs ∷ []) || clashes_with r root (joined cs) v)
clash_more r root cs vs v =
    both (some_clash r least.May root (cs ++ (vs ++ v ∷ []) ∷ [])) (some_clash r least.May root (cs ++ vs ∷ [])) (some_clash r least.May root cs)
    (clash_between r least.May root (joined cs) (vs ++ v ∷ [])) (clash_between r least.May root (joined cs) vs) (clashes_with r root (joined cs) v)
    (clash_last r root cs (vs ++ v ∷ [])) (clash_last r root cs vs) (between_last r root (joined cs) vs v) where
      both : (p q a b c d : Bool) → p ≡ (a || b) → q ≡ (a || c) → b ≡ (c || d) → p ≡ (q || d)
      both p q a b c d f g h = grind (arith, f, g, h)

clash_begun : (r : Rule) (root : ℕ) (cs : List (List Use)) → some_clash r least.May root (cs ++ [] ∷ []) ≡ some_clash r least.May root cs
clash_begun r root cs =
    both (some_clash r least.May root (cs ++ [] ∷ [])) (some_clash r least.May root cs) (clash_between r least.May root (joined cs) []) (clash_last r root cs []) (between_none r root (joined cs)) where
      both : (p a b : Bool) → p ≡ (a || b) → b ≡ false → p ≡ a
      both p a b f g = grind (arith, f, g)

-- ---- what is kept reports with what a use clashes

counts_may : (a b : Part) → counts least.May (overlap_of a b) ≡ (a.root == b.root && not (are_apart a.selectors b.selectors))
counts_may a b = verdict (a.root == b.root) (are_apart a.selectors b.selectors) (all_sure a.selectors b.selectors) where
  verdict : (c d e : Bool) → counts least.May (if c then (if d then o.Apart else if e then o.Must else o.May) else o.Apart) ≡ (c && not d)
  verdict true true e = refl
  verdict true false true = refl
  verdict true false false = refl
  verdict false d e = refl

clash_is : (r : Rule) (u v : Use) → clash r least.May v.part.root u v ≡ (u.part.root == v.part.root && conflict r u.kind v.kind && not (are_apart u.part.selectors v.part.selectors))
clash_is r u v =
    both (u.part.root == v.part.root) (v.part.root == v.part.root) (conflict r u.kind v.kind) (counts least.May (overlap_of u.part v.part)) (not (are_apart u.part.selectors v.part.selectors))
    (root_own v.part.root) (counts_may u.part v.part) where
      both : (a b c d n : Bool) → b ≡ true → d ≡ (a && n) → (a && b && c && d) ≡ (a && c && n)
      both a b c d n f g = grind (arith, f, g)

clash_other : (r : Rule) (root : ℕ) (u v : Use) → v.part.root ≢ root → clash r least.May root u v ≡ false
clash_other r root u v d =
    both (u.part.root == root) (v.part.root == root) (conflict r u.kind v.kind) (counts least.May (overlap_of u.part v.part)) (roots_apart v.part.root root d) where
      both : (a b c d : Bool) → b ≡ false → (a && b && c && d) ≡ false
      both a b c d f = grind (arith, f)

accumulated_written : (us : List Use) (v : Use)
    → ((is_write v.kind && (some_meets kind.Read v.part.root us v.part.selectors || some_meets kind.Write v.part.root us v.part.selectors)) || (is_read v.kind && some_meets kind.Write v.part.root us v.part.selectors))
    ≡ clashes_with rule.Written v.part.root us v
accumulated_written [] v = grind arith
accumulated_written (u ∷ us) v =
    both (u.part.root == v.part.root) (is_read u.kind) (is_write u.kind) (is_read v.kind) (is_write v.kind) (not (are_apart u.part.selectors v.part.selectors))
    (some_meets kind.Read v.part.root us v.part.selectors) (some_meets kind.Write v.part.root us v.part.selectors) (clash rule.Written least.May v.part.root u v)
    (clashes_with rule.Written v.part.root us v) (clash_is rule.Written u v) (accumulated_written us v) where
      both : (a k l m w n x y c z : Bool) → c ≡ (a && ((l && (m || w)) || (k && w)) && n) → ((w && (x || y)) || (m && y)) ≡ z
          → ((w && (((a && k && n) || x) || ((a && l && n) || y))) || (m && ((a && l && n) || y))) ≡ (c || z)
      both a k l m true n x y c z f g = grind (arith, f, g)
      both a k l m false n x y c z f g = grind (arith, f, g)

accumulated_input : (us : List Use) (v : Use) → (is_input v.kind && some_meets kind.Input v.part.root us v.part.selectors) ≡ clashes_with rule.Input v.part.root us v
accumulated_input [] v = grind arith
accumulated_input (u ∷ us) v =
    both (u.part.root == v.part.root) (is_input u.kind) (is_input v.kind) (not (are_apart u.part.selectors v.part.selectors)) (some_meets kind.Input v.part.root us v.part.selectors)
    (clash rule.Input least.May v.part.root u v) (clashes_with rule.Input v.part.root us v) (clash_is rule.Input u v) (accumulated_input us v) where
      both : (a k l n x c z : Bool) → c ≡ (a && (k && l) && n) → (l && x) ≡ z → (l && ((a && k && n) || x)) ≡ (c || z)
      both a k l n x c z f g = grind (arith, f, g)

accumulated_output : (us : List Use) (v : Use) → (is_output v.kind && some_meets kind.Output v.part.root us v.part.selectors) ≡ clashes_with rule.Output v.part.root us v
accumulated_output [] v = grind arith
accumulated_output (u ∷ us) v =
    both (u.part.root == v.part.root) (is_output u.kind) (is_output v.kind) (not (are_apart u.part.selectors v.part.selectors)) (some_meets kind.Output v.part.root us v.part.selectors)
    (clash rule.Output least.May v.part.root u v) (clashes_with rule.Output v.part.root us v) (clash_is rule.Output u v) (accumulated_output us v) where
      both : (a k l n x c z : Bool) → c ≡ (a && (k && l) && n) → (l && x) ≡ z → (l && ((a && k && n) || x)) ≡ (c || z)
      both a k l n x c z f g = grind (arith, f, g)

breaks_accumulated : (q : Rule) (r : RootUses) (reported : List (List Use)) (accumulated : List Use) (v : Use) → Knows v.part.root r reported accumulated
    → breaks q r v.kind v.part.selectors ≡ clashes_with q v.part.root accumulated v
breaks_accumulated rule.Written r reported accumulated v h =
    ap (λ (x : Bool). (is_write v.kind && (x || meets_some r.writes v.part.selectors)) || (is_read v.kind && meets_some r.writes v.part.selectors)) (h.parts kind.Read v.part.selectors)
    ∙ ap (λ (x : Bool). (is_write v.kind && (some_meets kind.Read v.part.root accumulated v.part.selectors || x)) || (is_read v.kind && x)) (h.parts kind.Write v.part.selectors)
    ∙ accumulated_written accumulated v
breaks_accumulated rule.Input r reported accumulated v h = ap (λ (x : Bool). is_input v.kind && x) (h.parts kind.Input v.part.selectors) ∙ accumulated_input accumulated v
breaks_accumulated rule.Output r reported accumulated v h = ap (λ (x : Bool). is_output v.kind && x) (h.parts kind.Output v.part.selectors) ∙ accumulated_output accumulated v

-- ---- a use is judged

judged_breaks : (q : Rule) (r : RootUses) (k : UseKind) (p : List PartSelector) → is_broken q (judged r k p) ≡ (is_broken q r || breaks q r k p)
judged_breaks rule.Written r k p = refl
judged_breaks rule.Input r k p = refl
judged_breaks rule.Output r k p = refl

judged_parts : (l : UseKind) (r : RootUses) (k : UseKind) (p : List PartSelector) → parts_of l (judged r k p) ≡ parts_of l r
judged_parts kind.Read r k p = refl
judged_parts kind.Write r k p = refl
judged_parts kind.Input r k p = refl
judged_parts kind.Output r k p = refl

judged_own : (r : RootUses) (cs : List (List Use)) (vs : List Use) (v : Use) → Knows v.part.root r (cs ++ vs ∷ []) (joined cs)
    → Knows v.part.root (judged r v.kind v.part.selectors) (cs ++ (vs ++ v ∷ []) ∷ []) (joined cs)
judged_own r cs vs v h = record {
  parts = λ k q. ap (λ (ps : List (List PartSelector)). meets_some ps q) (judged_parts k r v.kind v.part.selectors) ∙ h.parts k q;
  broken = λ q.
      judged_breaks q r v.kind v.part.selectors
      ∙ ap (λ (x : Bool). x || breaks q r v.kind v.part.selectors) (h.broken q)
      ∙ ap (λ (x : Bool). some_clash q least.May v.part.root (cs ++ vs ∷ []) || x) (breaks_accumulated q r (cs ++ vs ∷ []) (joined cs) v h)
      ∙ sym (clash_more q v.part.root cs vs v);
}

judged_other : (root : ℕ) (r : RootUses) (cs : List (List Use)) (vs : List Use) (v : Use) → v.part.root ≢ root → Knows root r (cs ++ vs ∷ []) (joined cs)
    → Knows root r (cs ++ (vs ++ v ∷ []) ∷ []) (joined cs)
judged_other root r cs vs v d h = record {
  parts = h.parts;
  broken = λ q.
      h.broken q
      ∙ same (some_clash q least.May root (cs ++ (vs ++ v ∷ []) ∷ [])) (some_clash q least.May root (cs ++ vs ∷ [])) (clashes_with q root (joined cs) v)
      (clash_more q root cs vs v) (any_none (λ (u : Use). clash q least.May root u v) (joined cs) (λ u. clash_other q root u v d));
} where
  same : (p a b : Bool) → p ≡ (a || b) → b ≡ false → a ≡ p
  same p a b f g = grind (arith, f, g)

pub judged_use : (table : List RootUses) (cs : List (List Use)) (vs : List Use) (v : Use) → IsTable (cs ++ vs ∷ []) (joined cs) table
    → IsTable (cs ++ (vs ++ v ∷ []) ∷ []) (joined cs) (judged_in table v)
judged_use table cs vs v h = by_entry (slice_get table v.part.root) refl where
  by_entry : (e : Option RootUses) → slice_get table v.part.root ≡ e → IsTable (cs ++ (vs ++ v ∷ []) ∷ []) (joined cs) (judged_at table v e)
  by_entry None at root r here =
      judged_other root r cs vs v (λ (e : v.part.root ≡ root). let same : slice_get table root ≡ None = sym (ap (slice_get table) e) ∙ at in cc) (h root r here)
  by_entry (Some own) at root r here = elim (get_set table v.part.root (judged own v.kind v.part.selectors) root r here) [
    | inl m ↦ subst (λ (k : ℕ). Knows k r (cs ++ (vs ++ v ∷ []) ∷ []) (joined cs)) (sym (m.0))
        (subst (λ (x : RootUses). Knows v.part.root x (cs ++ (vs ++ v ∷ []) ∷ []) (joined cs)) (m.1) (judged_own own cs vs v (h v.part.root own at)))
    | inr m ↦ judged_other root r cs vs v (λ (e : v.part.root ≡ root). m.0 (sym e)) (h root r (m.1))
  ]

pub judged_uses : (us : List Use) (table : List RootUses) (cs : List (List Use)) (vs : List Use) → IsTable (cs ++ vs ∷ []) (joined cs) table
    → IsTable (cs ++ (vs ++ us) ∷ []) (joined cs) (judged_by table us)
judged_uses [] table cs vs h = subst (λ (ws : List Use). IsTable (cs ++ ws ∷ []) (joined cs) table) (sym (append-nil vs)) h
judged_uses (u ∷ us) table cs vs h =
    subst (λ (ws : List Use). IsTable (cs ++ ws ∷ []) (joined cs) (judged_by (judged_in table u) us)) (append_assoc vs (u ∷ []) us)
    (judged_uses us (judged_in table u) cs (vs ++ u ∷ []) (judged_use table cs vs u h))

pub judged_component : (us : List Use) (table : List RootUses) (cs : List (List Use)) → IsTable cs (joined cs) table → IsTable (cs ++ us ∷ []) (joined cs) (judged_by table us)
judged_component us table cs h = judged_uses us table cs [] (λ root r at. record {
  parts = (h root r at).parts;
  broken = λ q. (h root r at).broken q ∙ sym (clash_begun q root cs);
})

-- ---- a use is kept

added_parts : (l k : UseKind) (p q : List PartSelector) (before after : RootUses) → Adds k p before after
    → meets_some (parts_of l after) q ≡ (meets_some (parts_of l before) q || (is_of l k && not (are_apart p q)))
added_parts kind.Read k p q before after h = h.reads q
added_parts kind.Write k p q before after h = h.writes q
added_parts kind.Input k p q before after h = h.inputs q
added_parts kind.Output k p q before after h = h.outputs q

added_broken : (r : Rule) (k : UseKind) (p : List PartSelector) (before after : RootUses) → Adds k p before after → is_broken r after ≡ is_broken r before
added_broken rule.Written k p before after h = h.breaks_written
added_broken rule.Input k p before after h = h.breaks_input
added_broken rule.Output k p before after h = h.breaks_output

meets_last : (k : UseKind) (root : ℕ) (us : List Use) (v : Use) (q : List PartSelector)
    → some_meets k root (us ++ v ∷ []) q ≡ (some_meets k root us q || (v.part.root == root && is_of k v.kind && not (are_apart v.part.selectors q)))
meets_last k root us v q = any_last (λ (u : Use). u.part.root == root && is_of k u.kind && not (are_apart u.part.selectors q)) us v

added_own : (before after : RootUses) (reported : List (List Use)) (accumulated : List Use) (v : Use) → Adds v.kind v.part.selectors before after → Knows v.part.root before reported accumulated
    → Knows v.part.root after reported (accumulated ++ v ∷ [])
added_own before after reported accumulated v a h = record {
  parts = λ k q.
      both (meets_some (parts_of k after) q) (meets_some (parts_of k before) q) (some_meets k v.part.root accumulated q) (some_meets k v.part.root (accumulated ++ v ∷ []) q)
      (v.part.root == v.part.root) (is_of k v.kind) (not (are_apart v.part.selectors q))
      (added_parts k v.kind v.part.selectors q before after a) (h.parts k q) (meets_last k v.part.root accumulated v q) (root_own v.part.root);
  broken = λ q. added_broken q v.kind v.part.selectors before after a ∙ h.broken q;
} where
  both : (x y z w t k n : Bool) → x ≡ (y || (k && n)) → y ≡ z → w ≡ (z || (t && k && n)) → t ≡ true → x ≡ w
  both x y z w t k n e f g i = grind (arith, e, f, g, i)

added_other : (root : ℕ) (r : RootUses) (reported : List (List Use)) (accumulated : List Use) (v : Use) → v.part.root ≢ root → Knows root r reported accumulated → Knows root r reported (accumulated ++ v ∷ [])
added_other root r reported accumulated v d h = record {
  parts = λ k q.
      both (meets_some (parts_of k r) q) (some_meets k root accumulated q) (some_meets k root (accumulated ++ v ∷ []) q) (v.part.root == root) (is_of k v.kind) (not (are_apart v.part.selectors q))
      (h.parts k q) (meets_last k root accumulated v q) (roots_apart v.part.root root d);
  broken = h.broken;
} where
  both : (y z w t k n : Bool) → y ≡ z → w ≡ (z || (t && k && n)) → t ≡ false → y ≡ w
  both y z w t k n f g i = grind (arith, f, g, i)

pub added_in : (table : List RootUses) (own after : RootUses) (reported : List (List Use)) (accumulated : List Use) (v : Use) → slice_get table v.part.root ≡ Some own
    → Adds v.kind v.part.selectors own after → IsTable reported accumulated table → IsTable reported (accumulated ++ v ∷ []) (slice_set table v.part.root after)
added_in table own after reported accumulated v at a h root r here = elim (get_set table v.part.root after root r here) [
  | inl m ↦ subst (λ (k : ℕ). Knows k r reported (accumulated ++ v ∷ [])) (sym (m.0))
      (subst (λ (x : RootUses). Knows v.part.root x reported (accumulated ++ v ∷ [])) (m.1) (added_own own after reported accumulated v a (h v.part.root own at)))
  | inr m ↦ added_other root r reported accumulated v (λ (e : v.part.root ≡ root). m.0 (sym e)) (h root r (m.1))
]

pub added_nowhere : (table : List RootUses) (reported : List (List Use)) (accumulated : List Use) (v : Use) → slice_get table v.part.root ≡ None → IsTable reported accumulated table
    → IsTable reported (accumulated ++ v ∷ []) table
added_nowhere table reported accumulated v at h root r here =
    added_other root r reported accumulated v (λ (e : v.part.root ≡ root). let same : slice_get table root ≡ None = sym (ap (slice_get table) e) ∙ at in cc) (h root r here)

-- ---- what is reported in the end

below_same : (n : ℕ) (f g : ℕ → List Diag) → ((k : ℕ) → k < n → f k ≡ g k) → below n f ≡ below n g
below_same zero f g h = refl
below_same (suc n) f g h =
    ap (λ (ds : List Diag). ds ++ f n) (below_same n f g (λ k w. h k (omega (arith, w))))
    ∙ ap (λ (ds : List Diag). below n g ++ ds) (h n (omega arith))

pub table_faults : (line : Location) (env : List Bound) (cs : List (List Use)) (accumulated : List Use) (table : List RootUses) → IsTable cs accumulated table → (n : ℕ) → length table ≡ n
    → below (length table) (faults_in line env table) ≡ below n (root_faults line env cs)
table_faults line env cs accumulated table h n e =
    ap (λ (k : ℕ). below k (faults_in line env table)) e ∙ below_same n (faults_in line env table) (root_faults line env cs) at where
      at : (k : ℕ) → k < n → faults_in line env table k ≡ root_faults line env cs k
      at k w = by_entry (get_within table k (omega (arith, w, e))) where
        by_entry : (r : RootUses) × (slice_get table k ≡ Some r) → faults_in line env table k ≡ root_faults line env cs k
        by_entry (r, here) =
            ap (broken_faults line env k) here
            ∙ ap (λ (x : Bool). fault_if x rule.Written line env k ++ fault_if r.breaks_input rule.Input line env k ++ fault_if r.breaks_output rule.Output line env k) ((h k r here).broken rule.Written)
            ∙ ap (λ (x : Bool). fault_if (some_clash rule.Written least.May k cs) rule.Written line env k ++ fault_if x rule.Input line env k ++ fault_if r.breaks_output rule.Output line env k)
            ((h k r here).broken rule.Input)
            ∙ ap (λ (x : Bool). fault_if (some_clash rule.Written least.May k cs) rule.Written line env k ++ fault_if (some_clash rule.Input least.May k cs) rule.Input line env k ++ fault_if x rule.Output line env k)
            ((h k r here).broken rule.Output)

pub reported_more : (line : Location) (env : List Bound) (table : List RootUses) (n : ℕ) (r : RootUses) (start before after : List Diag) → slice_get table n ≡ Some r
    → before ≡ start ++ below n (faults_in line env table) → after ≡ before ++ broken_faults line env n (Some r) → after ≡ start ++ below (n + 1) (faults_in line env table)
reported_more line env table n r start before after at h k =
    k
    ∙ ap (λ (ds : List Diag). ds ++ broken_faults line env n (Some r)) h
    ∙ append_assoc start (below n (faults_in line env table)) (broken_faults line env n (Some r))
    ∙ ap (λ (e : Option RootUses). start ++ (below n (faults_in line env table) ++ broken_faults line env n e)) (sym at)
    ∙ ap (λ (m : ℕ). start ++ below m (faults_in line env table)) (sym (add-one n))

-- ---- and in the beginning

abbrev pub unused : RootUses
unused = record { reads = []; writes = []; inputs = []; outputs = []; breaks_written = false; breaks_input = false; breaks_output = false }

unused_parts : (k : UseKind) → parts_of k unused ≡ []
unused_parts kind.Read = refl
unused_parts kind.Write = refl
unused_parts kind.Input = refl
unused_parts kind.Output = refl

unused_broken : (q : Rule) → is_broken q unused ≡ false
unused_broken rule.Written = refl
unused_broken rule.Input = refl
unused_broken rule.Output = refl

pub unused_more : (table : List RootUses) (r : RootUses) → r ≡ unused → IsTable [] [] table → IsTable [] [] (table ++ r ∷ [])
unused_more table r is h root e here = elim (get_push table r e root here) [
  | inl before ↦ h root e before
  | inr m ↦ subst (λ (x : RootUses). Knows root x [] []) (sym (m.1 ∙ is)) (record {
    parts = λ k q. ap (λ (ps : List (List PartSelector)). meets_some ps q) (unused_parts k);
    broken = λ q. unused_broken q;
  })
]

-- ---- of calls

pub on_ok : {T E : Type 0} (r : Result T E) {P Q : Type 0} → (P → Q) → OnOk r P → OnOk r Q
on_ok (Ok x) f h = f h
on_ok (Err e) f h = tt

pub judged_length : (us : List Use) (table : List RootUses) → length (judged_by table us) ≡ length table
judged_length [] table = refl
judged_length (u ∷ us) table = judged_length us (judged_in table u) ∙ by_entry (slice_get table u.part.root) where
  by_entry : (e : Option RootUses) → length (judged_at table u e) ≡ length table
  by_entry None = refl
  by_entry (Some r) = set_length table u.part.root (judged r u.kind u.part.selectors)

-- a part that is kept already reports nothing more
pub accumulated_covers : (accumulated : List (List PartSelector)) (part q : List PartSelector) → list_any (λ (p : List PartSelector). same_selectors p part) accumulated ≡ true
    → meets_some accumulated q ≡ (meets_some accumulated q || not (are_apart part q))
accumulated_covers accumulated part q h = by_test (not (are_apart part q)) refl where
  found : (p : List PartSelector) × StandsIn p accumulated × (same_selectors p part ≡ true)
  found = any_found (λ (p : List PartSelector). same_selectors p part) accumulated h

  by_test : (t : Bool) → not (are_apart part q) ≡ t → meets_some accumulated q ≡ (meets_some accumulated q || t)
  by_test false e = grind arith
  by_test true e =
      let same : not (are_apart (found.0) q) ≡ true = ap (λ (p : List PartSelector). not (are_apart p q)) ((selectors_exactly (found.0) part).0 (found.2)) ∙ e in
      let met : meets_some accumulated q ≡ true = any_given (λ (p : List PartSelector). not (are_apart p q)) accumulated (found.0) (found.1.0) (found.1.1) same in
      grind (arith, met)
