-- The two ways to say what a process uses are one.
use Rattle.std.proofs.Common.{◌≡◌, ◌<◌, ◌++◌, ◌⊎◌, ℕ, ℤ, zero, suc, Bool, true, false, Option, Some, None, List, [], ◌∷◌, inl, inr, refl, sym, subst, arith}
use Rattle.std.specs.Prelude.{◌↔◌, ◌==◌, if◌then◌else◌}
use Rattle.std.specs.List.{Contains}
use Rattle.occ_scope.specs.declared.meaning.ScopeEntry.{ScopeEntry}
use Rattle.occ_typing_statements.specs.declared.replicator_tree.KnownReplicator.{KnownReplicator}
use Rattle.occ_usage.specs.EachLine.{line_use, lines_use, rounds_use, under_use}
use Rattle.occ_usage.specs.Effect.{inner, is_body}
use Rattle.occ_usage.specs.Lines.{added, after_by, after_line, components, components_by, ends_item, is_replicated, items, items_of, known_replicator, line_uses, rounds_to, under_uses, with_index}
use Rattle.occ_usage.specs.Trees.{Empty, Head, Tree, Trees}
use Rattle.occ_usage_conflicts.specs.Components.{joined}
use Rattle.occ_usage_conflicts.specs.Distinct.{gathered}
use Rattle.occ_usage_lines.specs.Forms.{form_uses}
use Rattle.occ_usage_values.specs.Bounds.{Env}
use Rattle.occ_usage_values.specs.Uses.{at_line}
use Rattle.occ_project.specs.declared.expanded.Location.{Location}
use Rattle.occ_usage_values.specs.declared.uses.Use.{Use}
use Rattle.occ_theorems.specs.Using.{IsToldBy, IsToldOf, IsUsed, IsUsedBy, behind, in_some_round, itself, told_at, told_behind, told_in_some_round, told_itself, told_under, under}
use Rattle.occ_theorems.proofs.Members.{Among, from_contains, into_contains}
use Rattle.occ_theorems.proofs.Once.{IsTold, told_from, told_into}

-- ---- lists

front : (u : Use) (xs ys : List Use) → Among u xs → Among u (xs ++ ys)
front u [] ys h = absurd h
front u (x ∷ xs) ys (inl e) = inl e
front u (x ∷ xs) ys (inr h) = inr (front u xs ys h)

back : (u : Use) (xs ys : List Use) → Among u ys → Among u (xs ++ ys)
back u [] ys h = h
back u (x ∷ xs) ys h = inr (back u xs ys h)

split : (u : Use) (xs ys : List Use) → Among u (xs ++ ys) → Among u xs ⊎ Among u ys
split u [] ys h = inr h
split u (x ∷ xs) ys (inl e) = inl (inl e)
split u (x ∷ xs) ys (inr h) = elim (split u xs ys h) [
  | inl k ↦ inl (inr k)
  | inr k ↦ inr k
]

from_joined : (u : Use) (xs ys : List (List Use)) → Among u (joined (xs ++ ys)) → Among u (joined xs) ⊎ Among u (joined ys)
from_joined u [] ys h = inr h
from_joined u (x ∷ xs) ys h = elim (split u x (joined (xs ++ ys)) h) [
  | inl k ↦ inl (front u x (joined xs) k)
  | inr k ↦ elim (from_joined u xs ys k) [
    | inl j ↦ inl (back u x (joined xs) j)
    | inr j ↦ inr j
  ]
]

joined_front : (u : Use) (xs ys : List (List Use)) → Among u (joined xs) → Among u (joined (xs ++ ys))
joined_front u [] ys h = absurd h
joined_front u (x ∷ xs) ys h = elim (split u x (joined xs) h) [
  | inl k ↦ front u x (joined (xs ++ ys)) k
  | inr k ↦ back u x (joined (xs ++ ys)) (joined_front u xs ys k)
]

joined_back : (u : Use) (xs ys : List (List Use)) → Among u (joined ys) → Among u (joined (xs ++ ys))
joined_back u [] ys h = h
joined_back u (x ∷ xs) ys h = back u x (joined (xs ++ ys)) (joined_back u xs ys h)

-- ---- what stands under a line

under_from : (b r : Bool) (place : Location) (us : List Use) (w : Use) → Among w (if b then [] else (if r then gathered place [] us else us)) → (b ≡ false) × IsTold r place us w
under_from true r place us w h = absurd h
under_from false true place us w h = (refl, elim (told_from place us [] w h) [ inl k ↦ absurd k | inr k ↦ k ])
under_from false false place us w h = (refl, record { u = w; among = h; is = refl })

under_into : (b r : Bool) (place : Location) (us : List Use) (u : Use) → b ≡ false → Among u us → Among (if r then at_line u place else u) (if b then [] else (if r then gathered place [] us else us))
under_into true r place us u e h = absurd cc
under_into false true place us u e h = told_into place us [] u h
under_into false false place us u e h = h

rounds_from : (n : ℕ) (base : ℤ) (env : Env) (f : Env → List (List Use)) (u : Use) → Among u (joined (rounds_to n base env f)) → (i : ℕ) × (i < n) × Among u (joined (f (with_index env base i)))
rounds_from zero base env f u h = absurd h
rounds_from (suc n) base env f u h = elim (from_joined u (rounds_to n base env f) (joined (f (with_index env base n)) ∷ []) h) [
  | inl k ↦ let r = rounds_from n base env f u k in let l : r.0 < n = r.1 in (r.0, omega (arith, l), r.2)
  | inr k ↦ elim (split u (joined (f (with_index env base n))) [] k) [
    | inl j ↦ (n, omega arith, j)
    | inr j ↦ absurd j
  ]
]

same_number : (m n : ℕ) → (m == n) ≡ true → m ≡ n
same_number m n e = grind (arith, e)

rounds_into : (n : ℕ) (base : ℤ) (env : Env) (f : Env → List (List Use)) (u : Use) (i : ℕ) → i < n → Among u (joined (f (with_index env base i))) → Among u (joined (rounds_to n base env f))
rounds_into zero base env f u i l h = absurd (omega (arith, l))
rounds_into (suc n) base env f u i l h = at (i == n) refl (λ v. rounds_into n base env f u i v h) where
  at : (s : Bool) → (i == n) ≡ s → (i < n → Among u (joined (rounds_to n base env f))) → Among u (joined (rounds_to n base env f ++ joined (f (with_index env base n)) ∷ []))
  at true e before =
      joined_back u (rounds_to n base env f) (joined (f (with_index env base n)) ∷ [])
      (front u (joined (f (with_index env base n))) [] (subst (λ (k : ℕ). Among u (joined (f (with_index env base k)))) (same_number i n e) h))
  at false e before = joined_front u (rounds_to n base env f) (joined (f (with_index env base n)) ∷ []) (before (let w : (i == n) ≡ false = e in grind (arith, l, w)))

module _ (h : Head) (t following : Trees) (outer env : Env) where
  components_from : (u : Use) (o : Option KnownReplicator) → known_replicator h.form ≡ o → is_body h.form ≡ false → ((e : Env) (v : Use) → Among v (joined (items t e e [])) → IsToldOf t e e v)
      → Among u (joined (components_by o env h (items_of t))) → IsToldOf (Tree h t following) outer env (told_at h u)
  components_from u None known plain rest k = told_under h t following outer env u plain known (rest (inner env h) u k)
  components_from u (Some r) known plain rest k =
      let i = rounds_from r.count r.base env (items_of t) u k in
      told_in_some_round h t following outer env u r i.0 plain known i.1 (rest (with_index env r.base i.0) u i.2)

  line_from : (u : Use) → ((e : Env) (v : Use) → Among v (joined (items t e e [])) → IsToldOf t e e v) → Among u (line_uses env h (items_of t)) → IsToldOf (Tree h t following) outer env u
  line_from u rest k = elim (split u (form_uses h.form env h.place) (under_uses h.form h.place (joined (components env h (items_of t)))) k) [
    | inl j ↦ told_itself h t following outer env u (into_contains (form_uses h.form env h.place) u j)
    | inr j ↦
        let r = under_from (is_body h.form) (is_replicated h.form) h.place (joined (components env h (items_of t))) u j in
        subst (λ (w : Use). IsToldOf (Tree h t following) outer env w) r.1.is (components_from r.1.u (known_replicator h.form) refl r.0 rest r.1.among)
  ]

-- ---- all lines

items_from : (t : Trees) (outer env : Env) (own : List Use) (u : Use) → Among u (joined (items t outer env own)) → Among u own ⊎ IsToldOf t outer env u
items_from Empty outer env own u k = elim (split u own [] k) [
  | inl j ↦ inl j
  | inr j ↦ absurd j
]
items_from (Tree h t following) outer env own u k =
    by h.adds refl k (λ e v j. only t e v (items_from t e e [] v j)) (λ e o j. items_from following outer e o u j) where
      only : (t : Trees) (e : Env) (v : Use) → Among v [] ⊎ IsToldOf t e e v → IsToldOf t e e v
      only t e v (inl j) = absurd j
      only t e v (inr j) = j

      by : (o : Option (List ScopeEntry)) → h.adds ≡ o
          → Among u (joined (if ends_item o then (own ++ line_uses env h (items_of t)) ∷ items following outer outer [] else items following outer (env ++ added env h t (items_of t)) (own ++ line_uses env h (items_of t))))
          → ((e : Env) (v : Use) → Among v (joined (items t e e [])) → IsToldOf t e e v)
          → ((e : Env) (o : List Use) → Among u (joined (items following outer e o)) → Among u o ⊎ IsToldOf following outer e u)
          → Among u own ⊎ IsToldOf (Tree h t following) outer env u
      by None is k below more = elim (split u (own ++ line_uses env h (items_of t)) (joined (items following outer outer [])) k) [
        | inl j ↦ elim (split u own (line_uses env h (items_of t)) j) [
          | inl i ↦ inl i
          | inr i ↦ inr (line_from h t following outer env u below i)
        ]
        | inr j ↦ elim (more outer [] j) [
          | inl i ↦ absurd i
          | inr i ↦ inr (told_behind h t following outer env u (subst (λ (o : Option (List ScopeEntry)). IsToldOf following outer (after_by outer env h t o) u) (sym is) i))
        ]
      ]
      by (Some entries) is k below more = elim (more (env ++ added env h t (items_of t)) (own ++ line_uses env h (items_of t)) k) [
        | inl j ↦ elim (split u own (line_uses env h (items_of t)) j) [
          | inl i ↦ inl i
          | inr i ↦ inr (line_from h t following outer env u below i)
        ]
        | inr j ↦ inr (told_behind h t following outer env u (subst (λ (o : Option (List ScopeEntry)). IsToldOf following outer (after_by outer env h t o) u) (sym is) j))
      ]

-- ---- from the lines to the list

module _ (h : Head) (t following : Trees) (outer env : Env) (own : List Use) (u : Use) where
  tree_by : (o : Option (List ScopeEntry)) → h.adds ≡ o → Among u own ⊎ (Among u (line_uses env h (items_of t)) ⊎ Among u (joined (items following outer (after_by outer env h t o) (if ends_item o then [] else own ++ line_uses env h (items_of t)))))
      → ((e : Env) (us : List Use) → Among u us → Among u (joined (items following outer e us)))
      → Among u (joined (if ends_item o then (own ++ line_uses env h (items_of t)) ∷ items following outer outer [] else items following outer (env ++ added env h t (items_of t)) (own ++ line_uses env h (items_of t))))
  tree_by None is (inl k) keeps = front u (own ++ line_uses env h (items_of t)) (joined (items following outer outer [])) (front u own (line_uses env h (items_of t)) k)
  tree_by None is (inr (inl k)) keeps = front u (own ++ line_uses env h (items_of t)) (joined (items following outer outer [])) (back u own (line_uses env h (items_of t)) k)
  tree_by None is (inr (inr k)) keeps = back u (own ++ line_uses env h (items_of t)) (joined (items following outer outer [])) k
  tree_by (Some entries) is (inl k) keeps = keeps (env ++ added env h t (items_of t)) (own ++ line_uses env h (items_of t)) (front u own (line_uses env h (items_of t)) k)
  tree_by (Some entries) is (inr (inl k)) keeps = keeps (env ++ added env h t (items_of t)) (own ++ line_uses env h (items_of t)) (back u own (line_uses env h (items_of t)) k)
  tree_by (Some entries) is (inr (inr k)) keeps = k

own_stay : (t : Trees) (outer env : Env) (own : List Use) (u : Use) → Among u own → Among u (joined (items t outer env own))
own_stay Empty outer env own u k = front u own [] k
own_stay (Tree h t following) outer env own u k = tree_by h t following outer env own u h.adds refl (inl k) (λ e us j. own_stay following outer e us u j)

line_into : (h : Head) (t following : Trees) (outer env : Env) (own : List Use) (u : Use) → Among u (line_uses env h (items_of t)) → Among u (joined (items (Tree h t following) outer env own))
line_into h t following outer env own u k = tree_by h t following outer env own u h.adds refl (inr (inl k)) (λ e us j. own_stay following outer e us u j)

under_line : (h : Head) (t : Trees) (env : Env) (u : Use) (o : Option KnownReplicator) → known_replicator h.form ≡ o → is_body h.form ≡ false → Among u (joined (components_by o env h (items_of t))) → Among (told_at h u) (line_uses env h (items_of t))
under_line h t env u o known plain k =
    back (told_at h u) (form_uses h.form env h.place) (under_uses h.form h.place (joined (components env h (items_of t))))
    (under_into (is_body h.form) (is_replicated h.form) h.place (joined (components env h (items_of t))) u plain
    (subst (λ (z : Option KnownReplicator). Among u (joined (components_by z env h (items_of t)))) (sym known) k))

items_into : (t : Trees) (outer env : Env) (own : List Use) (u : Use) → IsToldOf t outer env u → Among u (joined (items t outer env own))
items_into _ _ _ own _ (told_itself h t following outer env u c) =
    line_into h t following outer env own u (front u (form_uses h.form env h.place) (under_uses h.form h.place (joined (components env h (items_of t)))) (from_contains (form_uses h.form env h.place) u c))
items_into _ _ _ own _ (told_under h t following outer env u plain known k) =
    line_into h t following outer env own (told_at h u) (under_line h t env u None known plain (items_into t (inner env h) (inner env h) [] u k))
items_into _ _ _ own _ (told_in_some_round h t following outer env u r i plain known l k) =
    line_into h t following outer env own (told_at h u)
    (under_line h t env u (Some r) known plain (rounds_into r.count r.base env (items_of t) u i l (items_into t (with_index env r.base i) (with_index env r.base i) [] u k)))
items_into _ _ _ own _ (told_behind h t following outer env u k) =
    tree_by h t following outer env own u h.adds refl
    (inr (inr (items_into following outer (after_line outer env h t) (if ends_item h.adds then [] else own ++ line_uses env h (items_of t)) u k)))
    (λ e us j. own_stay following outer e us u j)

-- ---- a process

pub told_law : (env : Env) (h : Head) (t : Trees) (u : Use) → Contains (line_uses env h (items_of t)) u ↔ IsToldBy env h t u
told_law env h t u = (
  λ c. line_from h t Empty env env u (λ e v j. only t e v (items_from t e e [] v j)) (from_contains (line_uses env h (items_of t)) u c),
  λ k. into_contains (line_uses env h (items_of t)) u (alone (items_into (Tree h t Empty) env env [] u k)),
) where
  only : (t : Trees) (e : Env) (v : Use) → Among v [] ⊎ IsToldOf t e e v → IsToldOf t e e v
  only t e v (inl j) = absurd j
  only t e v (inr j) = j

  alone_by : (o : Option (List ScopeEntry)) → Among u (joined (if ends_item o then ([] ++ line_uses env h (items_of t)) ∷ items Empty env env [] else items Empty env (env ++ added env h t (items_of t)) ([] ++ line_uses env h (items_of t)))) → Among u (line_uses env h (items_of t))
  alone_by None k = elim (split u (line_uses env h (items_of t)) ([] ++ []) k) [
    | inl j ↦ j
    | inr j ↦ absurd j
  ]
  alone_by (Some entries) k = elim (split u (line_uses env h (items_of t)) [] k) [
    | inl j ↦ j
    | inr j ↦ absurd j
  ]

  alone : Among u (joined (items (Tree h t Empty) env env [])) → Among u (line_uses env h (items_of t))
  alone k = alone_by h.adds k

-- ---- each use at the line that has it

with_rounds : (n : ℕ) (base : ℤ) (env : Env) (f : Env → List Use) (u : Use) → Among u (rounds_use n base env f) → (i : ℕ) × (i < n) × Among u (f (with_index env base i))
with_rounds zero base env f u h = absurd h
with_rounds (suc n) base env f u h = elim (split u (rounds_use n base env f) (f (with_index env base n)) h) [
  | inl k ↦ let r = with_rounds n base env f u k in let l : r.0 < n = r.1 in (r.0, omega (arith, l), r.2)
  | inr k ↦ (n, omega arith, k)
]

into_rounds : (n : ℕ) (base : ℤ) (env : Env) (f : Env → List Use) (u : Use) (i : ℕ) → i < n → Among u (f (with_index env base i)) → Among u (rounds_use n base env f)
into_rounds zero base env f u i l h = absurd (omega (arith, l))
into_rounds (suc n) base env f u i l h = at (i == n) refl (λ v. into_rounds n base env f u i v h) where
  at : (s : Bool) → (i == n) ≡ s → (i < n → Among u (rounds_use n base env f)) → Among u (rounds_use n base env f ++ f (with_index env base n))
  at true e before = back u (rounds_use n base env f) (f (with_index env base n)) (subst (λ (k : ℕ). Among u (f (with_index env base k))) (same_number i n e) h)
  at false e before = front u (rounds_use n base env f) (f (with_index env base n)) (before (let w : (i == n) ≡ false = e in grind (arith, l, w)))

below_from : (b : Bool) (us : List Use) (u : Use) → Among u (if b then [] else us) → (b ≡ false) × Among u us
below_from true us u h = absurd h
below_from false us u h = (refl, h)

below_into : (b : Bool) (us : List Use) (u : Use) → b ≡ false → Among u us → Among u (if b then [] else us)
below_into true us u e h = absurd cc
below_into false us u e h = h

module _ (h : Head) (t following : Trees) (outer env : Env) where
  each_under_from : (u : Use) (o : Option KnownReplicator) → known_replicator h.form ≡ o → is_body h.form ≡ false → ((e : Env) (v : Use) → Among v (lines_use t e e) → IsUsed t e e v)
      → Among u (under_use o env h (λ (e : Env). lines_use t e e)) → IsUsed (Tree h t following) outer env u
  each_under_from u None known plain rest k = under h t following outer env u plain known (rest (inner env h) u k)
  each_under_from u (Some r) known plain rest k =
      let i = with_rounds r.count r.base env (λ (e : Env). lines_use t e e) u k in
      in_some_round h t following outer env u r i.0 plain known i.1 (rest (with_index env r.base i.0) u i.2)

  each_line_from : (u : Use) → ((e : Env) (v : Use) → Among v (lines_use t e e) → IsUsed t e e v) → Among u (line_use env h t) → IsUsed (Tree h t following) outer env u
  each_line_from u rest k = elim (split u (form_uses h.form env h.place) (if is_body h.form then [] else under_use (known_replicator h.form) env h (λ (e : Env). lines_use t e e)) k) [
    | inl j ↦ itself h t following outer env u (into_contains (form_uses h.form env h.place) u j)
    | inr j ↦
        let r = below_from (is_body h.form) (under_use (known_replicator h.form) env h (λ (e : Env). lines_use t e e)) u j in
        each_under_from u (known_replicator h.form) refl r.0 rest r.1
  ]

each_from : (t : Trees) (outer env : Env) (u : Use) → Among u (lines_use t outer env) → IsUsed t outer env u
each_from Empty outer env u k = absurd k
each_from (Tree h t following) outer env u k = elim (split u (line_use env h t) (lines_use following outer (after_line outer env h t)) k) [
  | inl j ↦ each_line_from h t following outer env u (λ e v i. each_from t e e v i) j
  | inr j ↦ behind h t following outer env u (each_from following outer (after_line outer env h t) u j)
]

each_below : (h : Head) (t : Trees) (env : Env) (u : Use) (o : Option KnownReplicator) → known_replicator h.form ≡ o → is_body h.form ≡ false → Among u (under_use o env h (λ (e : Env). lines_use t e e)) → Among u (line_use env h t)
each_below h t env u o known plain k =
    back u (form_uses h.form env h.place) (if is_body h.form then [] else under_use (known_replicator h.form) env h (λ (e : Env). lines_use t e e))
    (below_into (is_body h.form) (under_use (known_replicator h.form) env h (λ (e : Env). lines_use t e e)) u plain
    (subst (λ (z : Option KnownReplicator). Among u (under_use z env h (λ (e : Env). lines_use t e e))) (sym known) k))

each_into : (t : Trees) (outer env : Env) (u : Use) → IsUsed t outer env u → Among u (lines_use t outer env)
each_into _ _ _ _ (itself h t following outer env u c) =
    front u (line_use env h t) (lines_use following outer (after_line outer env h t))
    (front u (form_uses h.form env h.place) (if is_body h.form then [] else under_use (known_replicator h.form) env h (λ (e : Env). lines_use t e e)) (from_contains (form_uses h.form env h.place) u c))
each_into _ _ _ _ (under h t following outer env u plain known k) =
    front u (line_use env h t) (lines_use following outer (after_line outer env h t)) (each_below h t env u None known plain (each_into t (inner env h) (inner env h) u k))
each_into _ _ _ _ (in_some_round h t following outer env u r i plain known l k) =
    front u (line_use env h t) (lines_use following outer (after_line outer env h t))
    (each_below h t env u (Some r) known plain (into_rounds r.count r.base env (λ (e : Env). lines_use t e e) u i l (each_into t (with_index env r.base i) (with_index env r.base i) u k)))
each_into _ _ _ _ (behind h t following outer env u k) =
    back u (line_use env h t) (lines_use following outer (after_line outer env h t)) (each_into following outer (after_line outer env h t) u k)

pub used_law : (env : Env) (h : Head) (t : Trees) (u : Use) → Contains (line_use env h t) u ↔ IsUsedBy env h t u
used_law env h t u = (
  λ c. each_line_from h t Empty env env u (λ e v i. each_from t e e v i) (from_contains (line_use env h t) u c),
  λ k. into_contains (line_use env h t) u (only (each_into (Tree h t Empty) env env u k)),
) where
  only : Among u (lines_use (Tree h t Empty) env env) → Among u (line_use env h t)
  only k = elim (split u (line_use env h t) [] k) [
    | inl j ↦ j
    | inr j ↦ absurd j
  ]
