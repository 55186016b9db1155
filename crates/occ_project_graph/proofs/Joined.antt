-- A graph where one node more comes to an index, to which edges lead from those that have a mark, and from which none leads.
use Rattle.std.proofs.Common.{◌≡◌, ◌∙◌, ◌+◌, ◌<◌, ◌≤◌, ◌++◌, ◌||◌, ◌==◌, ℕ, zero, suc, Bool, true, false, cond, not, List, [], ◌∷◌, length, map, get_or, refl, sym, ap, subst, inl, inr, arith}
use Rattle.std.specs.Prelude.{nat_lt}
use Rattle.std.specs.List.{filter, insert, range_with_len}
use Rattle.std.proofs.lemmas.Bool.{cases_lt, eq-eqb, eqb-true, le-ltb, lt-ltb}
use Rattle.std.proofs.lemmas.List.{get_or_past, map-append}
use Rattle.std.proofs.lemmas.List.Edits.{get_or-insert_above, get_or-insert_at, get_or-insert_below, length-insert}
use Rattle.std.proofs.lemmas.List.Elements.{filter-append}
use Rattle.occ_project_graph.specs.Adding.{IsParted, raised, row_with, rows_with, with_used_node}
use Rattle.occ_project_graph.specs.Graph.{Graph, Path, Reaches, all_rests, has_edge, is_among, is_circular, reaches, rests, targets}
use Rattle.occ_project_graph.specs.Sources.{once_each, sources, sources_from}
use Rattle.occ_project_graph.specs.inside.Linking.{before, following, marked}
use Rattle.occ_project_graph.proofs.Added.{all_rows, among_raised, apart_test, filter_raised, here_or, none_by, not_among, not_both, once_none, raised_above, raised_apart, raised_below, rests_long, rests_there, same_test, sources_moved, sources_raised}
use Rattle.occ_project_graph.proofs.Ways.{first_holds, path_reaches, reaches_path, same_truth, second_holds}

-- what comes into a row is no other
among_inserted : (xs ys : List ℕ) (x w : ℕ) → (x == w) ≡ false → is_among (xs ++ x ∷ ys) w ≡ is_among (xs ++ ys) w
among_inserted [] ys x w e = ap (λ (b : Bool). b || is_among ys w) e
among_inserted (y ∷ xs) ys x w e = ap (λ (b : Bool). (y == w) || b) (among_inserted xs ys x w e)

among_itself : (xs ys : List ℕ) (x : ℕ) → is_among (xs ++ x ∷ ys) x ≡ true
among_itself [] ys x = first_holds (x == x) (is_among ys x) (eq-eqb x x refl)
among_itself (y ∷ xs) ys x = second_holds (y == x) (is_among (xs ++ x ∷ ys) x) (among_itself xs ys x)

once_inserted : (u : ℕ) (xs ys : List ℕ) (x w : ℕ) → (x == w) ≡ false → once_each u (xs ++ x ∷ ys) w ≡ once_each u (xs ++ ys) w
once_inserted u [] ys x w e = ap (λ (b : Bool). map (λ (z : ℕ). u) (cond b (x ∷ filter (λ z. z == w) ys) (filter (λ z. z == w) ys))) e
once_inserted u (y ∷ xs) ys x w e = by (y == w) (once_inserted u xs ys x w e) where
  by : (b : Bool) → once_each u (xs ++ x ∷ ys) w ≡ once_each u (xs ++ ys) w
      → map (λ (z : ℕ). u) (cond b (y ∷ filter (λ z. z == w) (xs ++ x ∷ ys)) (filter (λ z. z == w) (xs ++ x ∷ ys))) ≡ map (λ (z : ℕ). u) (cond b (y ∷ filter (λ z. z == w) (xs ++ ys)) (filter (λ z. z == w) (xs ++ ys)))
  by true k = ap (λ (us : List ℕ). u ∷ us) k
  by false k = k

once_itself : (u : ℕ) (xs ys : List ℕ) (x : ℕ) → is_among (xs ++ ys) x ≡ false → once_each u (xs ++ x ∷ ys) x ≡ u ∷ []
once_itself u [] ys x none =
    ap (λ (b : Bool). map (λ (z : ℕ). u) (cond b (x ∷ filter (λ z. z == x) ys) (filter (λ z. z == x) ys))) (eq-eqb x x refl)
    ∙ ap (λ (us : List ℕ). u ∷ us) (once_none u ys x none)
once_itself u (y ∷ xs) ys x none = by (y == x) none (once_itself u xs ys x) where
  by : (b : Bool) → (b || is_among (xs ++ ys) x) ≡ false → (is_among (xs ++ ys) x ≡ false → once_each u (xs ++ x ∷ ys) x ≡ u ∷ [])
      → map (λ (z : ℕ). u) (cond b (y ∷ filter (λ z. z == x) (xs ++ x ∷ ys)) (filter (λ z. z == x) (xs ++ x ∷ ys))) ≡ u ∷ []
  by true k rest = absurd cc
  by false k rest = rest k

below_by : (u at : ℕ) → nat_lt u at ≡ true → u < at
below_by u at h = elim (cases_lt u at) [
  | inl below ↦ below
  | inr above ↦ let none = le-ltb u at above in absurd (cc (none, h))
]

above_by : (u at : ℕ) → nat_lt u at ≡ false → at ≤ u
above_by u at h = elim (cases_lt u at) [
  | inl below ↦ let some = lt-ltb u at below in absurd (cc (some, h))
  | inr above ↦ above
]

-- rows
module _ (at : ℕ) where
  raised_before : (ws : List ℕ) → map (raised at) (before at ws) ≡ before at ws
  raised_before [] = refl
  raised_before (w ∷ ws) = by (nat_lt w at) refl (raised_before ws) where
    by : (b : Bool) → nat_lt w at ≡ b → map (raised at) (before at ws) ≡ before at ws → map (raised at) (cond b (w ∷ before at ws) (before at ws)) ≡ cond b (w ∷ before at ws) (before at ws)
    by true e rest = ap (λ (v : ℕ). v ∷ map (raised at) (before at ws)) (raised_below at w (below_by w at e)) ∙ ap (λ (vs : List ℕ). w ∷ vs) rest
    by false e rest = rest

  raised_following : (ws : List ℕ) → map (raised at) (filter (λ w. not (nat_lt w at)) ws) ≡ following at ws
  raised_following [] = refl
  raised_following (w ∷ ws) = by (nat_lt w at) refl (raised_following ws) where
    vs : List ℕ
    vs = filter (λ x. not (nat_lt x at)) ws

    by : (b : Bool) → nat_lt w at ≡ b → map (raised at) vs ≡ map (λ (x : ℕ). x + 1) vs → map (raised at) (cond (not b) (w ∷ vs) vs) ≡ map (λ (x : ℕ). x + 1) (cond (not b) (w ∷ vs) vs)
    by true e rest = rest
    by false e rest = ap (λ (v : ℕ). v ∷ map (raised at) vs) (raised_above at w (above_by w at e)) ∙ ap (λ (xs : List ℕ). (w + 1) ∷ xs) rest

  -- the row without the new node
  raised_parts : (ws : List ℕ) → IsParted at ws → map (raised at) ws ≡ before at ws ++ following at ws
  raised_parts ws parts =
      ap (map (raised at)) parts
      ∙ map-append (raised at) (before at ws) (filter (λ w. not (nat_lt w at)) ws)
      ∙ ap (λ (vs : List ℕ). vs ++ map (raised at) (filter (λ w. not (nat_lt w at)) ws)) (raised_before ws)
      ∙ ap (λ (vs : List ℕ). before at ws ++ vs) (raised_following ws)

  none_new : (ws : List ℕ) → IsParted at ws → is_among (before at ws ++ following at ws) at ≡ false
  none_new ws parts = ap (λ (vs : List ℕ). is_among vs at) (sym (raised_parts ws parts)) ∙ not_among at ws

  turned_apart : (v : ℕ) → (at == raised at v) ≡ false
  turned_apart v = none_by (at == raised at v) (λ e. raised_apart at v (sym (eqb-true at (raised at v) e)))

  among_row : (ws : List ℕ) (v : ℕ) → IsParted at ws → is_among (row_with at ws) (raised at v) ≡ is_among ws v
  among_row ws v parts =
      among_inserted (before at ws) (following at ws) at (raised at v) (turned_apart v)
      ∙ ap (λ (vs : List ℕ). is_among vs (raised at v)) (sym (raised_parts ws parts))
      ∙ among_raised at ws v

  once_row : (u : ℕ) (ws : List ℕ) (v : ℕ) → IsParted at ws → once_each u (row_with at ws) (raised at v) ≡ once_each u (map (raised at) ws) (raised at v)
  once_row u ws v parts =
      once_inserted u (before at ws) (following at ws) at (raised at v) (turned_apart v)
      ∙ ap (λ (vs : List ℕ). once_each u vs (raised at v)) (sym (raised_parts ws parts))

  once_new : (u : ℕ) (ws : List ℕ) → IsParted at ws → once_each u (row_with at ws) at ≡ u ∷ []
  once_new u ws parts = once_itself u (before at ws) (following at ws) at (none_new ws parts)

  once_old : (u : ℕ) (ws : List ℕ) → once_each u (map (raised at) ws) at ≡ []
  once_old u ws = once_none u (map (raised at) ws) at (not_among at ws)

  -- tests that agree leave the same of a row
  module _ (f h : ℕ → Bool) (same : (v : ℕ) → h (raised at v) ≡ f v) (new : h at ≡ true) where
    left_before : (ws : List ℕ) → filter h (before at ws) ≡ before at (filter f ws)
    left_before [] = refl
    left_before (w ∷ ws) = by (nat_lt w at) (f w) refl refl (left_before ws) where
      by : (b c : Bool) → nat_lt w at ≡ b → f w ≡ c → filter h (before at ws) ≡ before at (filter f ws) → filter h (cond b (w ∷ before at ws) (before at ws)) ≡ before at (cond c (w ∷ filter f ws) (filter f ws))
      by true c e k rest =
          ap (λ (d : Bool). cond d (w ∷ filter h (before at ws)) (filter h (before at ws))) (ap h (sym (raised_below at w (below_by w at e))) ∙ same w ∙ k)
          ∙ ap (λ (vs : List ℕ). cond c (w ∷ vs) vs) rest
          ∙ in_front c e
        where
          in_front : (c : Bool) → nat_lt w at ≡ true → cond c (w ∷ before at (filter f ws)) (before at (filter f ws)) ≡ before at (cond c (w ∷ filter f ws) (filter f ws))
          in_front true e = sym (ap (λ (d : Bool). cond d (w ∷ before at (filter f ws)) (before at (filter f ws))) e)
          in_front false e = refl
      by false true e k rest = rest ∙ sym (ap (λ (d : Bool). cond d (w ∷ before at (filter f ws)) (before at (filter f ws))) e)
      by false false e k rest = rest

    left_following : (ws : List ℕ) → filter h (following at ws) ≡ following at (filter f ws)
    left_following [] = refl
    left_following (w ∷ ws) = by (nat_lt w at) (f w) refl refl (left_following ws) where
      vs : List ℕ
      vs = filter (λ x. not (nat_lt x at)) ws

      us : List ℕ
      us = filter (λ x. not (nat_lt x at)) (filter f ws)

      by : (b c : Bool) → nat_lt w at ≡ b → f w ≡ c → filter h (map (λ (x : ℕ). x + 1) vs) ≡ map (λ (x : ℕ). x + 1) us
          → filter h (map (λ (x : ℕ). x + 1) (cond (not b) (w ∷ vs) vs)) ≡ map (λ (x : ℕ). x + 1) (filter (λ x. not (nat_lt x at)) (cond c (w ∷ filter f ws) (filter f ws)))
      by true true e k rest = rest ∙ sym (ap (λ (d : Bool). map (λ (x : ℕ). x + 1) (cond (not d) (w ∷ us) us)) e)
      by true false e k rest = rest
      by false true e k rest =
          ap (λ (d : Bool). cond d ((w + 1) ∷ filter h (map (λ (x : ℕ). x + 1) vs)) (filter h (map (λ (x : ℕ). x + 1) vs))) (ap h (sym (raised_above at w (above_by w at e))) ∙ same w ∙ k)
          ∙ ap (λ (xs : List ℕ). (w + 1) ∷ xs) rest
          ∙ sym (ap (λ (d : Bool). map (λ (x : ℕ). x + 1) (cond (not d) (w ∷ us) us)) e)
      by false false e k rest =
          ap (λ (d : Bool). cond d ((w + 1) ∷ filter h (map (λ (x : ℕ). x + 1) vs)) (filter h (map (λ (x : ℕ). x + 1) vs))) (ap h (sym (raised_above at w (above_by w at e))) ∙ same w ∙ k)
          ∙ rest

    left_row : (ws : List ℕ) → filter h (row_with at ws) ≡ row_with at (filter f ws)
    left_row ws =
        filter-append h (before at ws) (at ∷ following at ws)
        ∙ ap (λ (d : Bool). filter h (before at ws) ++ cond d (at ∷ filter h (following at ws)) (filter h (following at ws))) new
        ∙ ap (λ (vs : List ℕ). vs ++ at ∷ filter h (following at ws)) (left_before ws)
        ∙ ap (λ (vs : List ℕ). before at (filter f ws) ++ at ∷ vs) (left_following ws)

  -- rows by their places
  rows_count : (g : Graph) (marks : List Bool) → length (rows_with at g marks) ≡ length g
  rows_count [] marks = refl
  rows_count (ws ∷ g) [] = ap suc (rows_count g [])
  rows_count (ws ∷ g) (m ∷ marks) = ap suc (rows_count g marks)

  rows_at : (g : Graph) (marks : List Bool) (u : ℕ) → u < length g → get_or (rows_with at g marks) u [] ≡ cond (get_or marks u false) (row_with at (get_or g u [])) (map (raised at) (get_or g u []))
  rows_at [] marks u lt = absurd (omega (arith, lt))
  rows_at (ws ∷ g) [] zero lt = refl
  rows_at (ws ∷ g) [] (suc u) lt = rows_at g [] u (omega (arith, lt))
  rows_at (ws ∷ g) (m ∷ marks) zero lt = refl
  rows_at (ws ∷ g) (m ∷ marks) (suc u) lt = rows_at g marks u (omega (arith, lt))

  abbrev AreParted : Graph → List Bool → Type 0
  AreParted g marks = (u : ℕ) → get_or marks u false ≡ true → IsParted at (targets g u)

  -- sources of the nodes that were there
  once_by : (k : ℕ) (ws : List ℕ) (m : Bool) (v : ℕ) → (m ≡ true → IsParted at ws) → once_each k (cond m (row_with at ws) (map (raised at) ws)) (raised at v) ≡ once_each k (map (raised at) ws) (raised at v)
  once_by k ws true v parts = once_row k ws v (parts refl)
  once_by k ws false v parts = refl

  plain_sources : (k : ℕ) (g : Graph) (marks : List Bool) (v : ℕ) → AreParted g marks → sources_from k (rows_with at g marks) (raised at v) ≡ sources_from k (map (map (raised at)) g) (raised at v)
  plain_sources k [] marks v parts = refl
  plain_sources k (ws ∷ g) [] v parts = ap (λ (us : List ℕ). once_each k (map (raised at) ws) (raised at v) ++ us) (plain_sources (k + 1) g [] v (λ u h. absurd cc))
  plain_sources k (ws ∷ g) (m ∷ marks) v parts =
      ap (λ (us : List ℕ). us ++ sources_from (k + 1) (rows_with at g marks) (raised at v)) (once_by k ws m v (parts 0))
      ∙ ap (λ (us : List ℕ). once_each k (map (raised at) ws) (raised at v) ++ us) (plain_sources (k + 1) g marks v (λ u h. parts (suc u) h))

  same_sources : (k i : ℕ) (g : Graph) (marks : List Bool) (v : ℕ) → AreParted g marks → sources_from k (insert (rows_with at g marks) i []) (raised at v) ≡ sources_from k (insert (map (map (raised at)) g) i []) (raised at v)
  same_sources k zero g marks v parts = plain_sources (k + 1) g marks v parts
  same_sources k (suc i) [] marks v parts = refl
  same_sources k (suc i) (ws ∷ g) [] v parts = ap (λ (us : List ℕ). once_each k (map (raised at) ws) (raised at v) ++ us) (same_sources (k + 1) i g [] v (λ u h. absurd cc))
  same_sources k (suc i) (ws ∷ g) (m ∷ marks) v parts =
      ap (λ (us : List ℕ). us ++ sources_from (k + 1) (insert (rows_with at g marks) i []) (raised at v)) (once_by k ws m v (parts 0))
      ∙ ap (λ (us : List ℕ). once_each k (map (raised at) ws) (raised at v) ++ us) (same_sources (k + 1) i g marks v (λ u h. parts (suc u) h))

  -- those of the new one
  new_by : (k : ℕ) (ws : List ℕ) (m : Bool) (us : List ℕ) → (m ≡ true → IsParted at ws) → once_each k (cond m (row_with at ws) (map (raised at) ws)) at ++ us ≡ cond m (k ∷ us) us
  new_by k ws true us parts = ap (λ (vs : List ℕ). vs ++ us) (once_new k ws (parts refl))
  new_by k ws false us parts = ap (λ (vs : List ℕ). vs ++ us) (once_old k ws)

  none_marked : (k : ℕ) (g : Graph) → sources_from k (rows_with at g []) at ≡ []
  none_marked k [] = refl
  none_marked k (ws ∷ g) = ap (λ (us : List ℕ). us ++ sources_from (k + 1) (rows_with at g []) at) (once_old k ws) ∙ none_marked (k + 1) g

  none_inserted : (k i : ℕ) (g : Graph) → sources_from k (insert (rows_with at g []) i []) at ≡ []
  none_inserted k zero g = none_marked (k + 1) g
  none_inserted k (suc i) [] = refl
  none_inserted k (suc i) (ws ∷ g) = ap (λ (us : List ℕ). us ++ sources_from (k + 1) (insert (rows_with at g []) i []) at) (once_old k ws) ∙ none_inserted (k + 1) i g

  plain_new : (k : ℕ) (g : Graph) (marks : List Bool) → at ≤ k → AreParted g marks → sources_from (k + 1) (rows_with at g marks) at ≡ marked (map (raised at) (range_with_len k (length g))) marks
  plain_new k [] marks le parts = refl
  plain_new k (ws ∷ g) [] le parts = none_marked (k + 1) (ws ∷ g)
  plain_new k (ws ∷ g) (m ∷ marks) le parts =
      new_by (k + 1) ws m (sources_from (k + 1 + 1) (rows_with at g marks) at) (parts 0)
      ∙ ap (λ (us : List ℕ). cond m ((k + 1) ∷ us) us) (plain_new (k + 1) g marks (omega (arith, le)) (λ u h. parts (suc u) h))
      ∙ ap (λ (v : ℕ). cond m (v ∷ marked (map (raised at) (range_with_len (k + 1) (length g))) marks) (marked (map (raised at) (range_with_len (k + 1) (length g))) marks)) (sym (raised_above at k le))

  new_sources : (k i : ℕ) (g : Graph) (marks : List Bool) → k + i ≡ at → i ≤ length g → AreParted g marks → sources_from k (insert (rows_with at g marks) i []) at ≡ marked (map (raised at) (range_with_len k (length g))) marks
  new_sources k zero g marks e le parts = plain_new k g marks (omega (arith, e)) parts
  new_sources k (suc i) [] marks e le parts = absurd (omega (arith, le))
  new_sources k (suc i) (ws ∷ g) [] e le parts = none_inserted k (suc i) (ws ∷ g)
  new_sources k (suc i) (ws ∷ g) (m ∷ marks) e le parts =
      new_by k ws m (sources_from (k + 1) (insert (rows_with at g marks) i []) at) (parts 0)
      ∙ ap (λ (us : List ℕ). cond m (k ∷ us) us) (new_sources (k + 1) i g marks (omega (arith, e)) (omega (arith, le)) (λ u h. parts (suc u) h))
      ∙ ap (λ (v : ℕ). cond m (v ∷ marked (map (raised at) (range_with_len (k + 1) (length g))) marks) (marked (map (raised at) (range_with_len (k + 1) (length g))) marks)) (sym (raised_below at k (omega (arith, e))))

-- the whole graph
module _ (g : Graph) (at : ℕ) (marks : List Bool) (h : at ≤ length g) where
  abbrev pub joined : Graph
  joined = with_used_node g at marks

  index : at ≤ length (rows_with at g marks)
  index = let long = rows_count at g marks in omega (arith, h, long)

  pub joined_long : length joined ≡ length g + 1
  joined_long = let long = rows_count at g marks in length-insert (rows_with at g marks) at [] index ∙ ap (λ (n : ℕ). n + 1) long

  pub row_new : get_or joined at [] ≡ []
  row_new = get_or-insert_at (rows_with at g marks) at [] [] index

  row_old : (u : ℕ) → get_or joined (raised at u) [] ≡ get_or (rows_with at g marks) u []
  row_old u = elim (cases_lt u at) [
    | inl below ↦ ap (λ (v : ℕ). get_or joined v []) (raised_below at u below) ∙ get_or-insert_below (rows_with at g marks) at [] [] u below index
    | inr above ↦ ap (λ (v : ℕ). get_or joined v []) (raised_above at u above) ∙ get_or-insert_above (rows_with at g marks) at [] [] u above index
  ]

  pub row_joined : (u : ℕ) → u < length g → get_or joined (raised at u) [] ≡ cond (get_or marks u false) (row_with at (targets g u)) (map (raised at) (targets g u))
  row_joined u lt = row_old u ∙ rows_at at g marks u lt

  row_past : (u : ℕ) → length g ≤ u → get_or joined (raised at u) [] ≡ map (raised at) (targets g u)
  row_past u le =
      row_old u
      ∙ get_or_past (rows_with at g marks) u [] (let long = rows_count at g marks in omega (arith, le, long))
      ∙ sym (ap (map (raised at)) (get_or_past g u [] le))

  module _ (parts : (u : ℕ) → get_or marks u false ≡ true → IsParted at (targets g u)) where
    -- the edges
    edge_joined : (u v : ℕ) → has_edge joined (raised at u) (raised at v) ≡ has_edge g u v
    edge_joined u v = elim (cases_lt u (length g)) [
      | inl below ↦ ap (λ (ws : List ℕ). is_among ws (raised at v)) (row_joined u below) ∙ by (get_or marks u false) (parts u)
      | inr above ↦ ap (λ (ws : List ℕ). is_among ws (raised at v)) (row_past u above) ∙ among_raised at (targets g u) v
    ] where
      by : (b : Bool) → (b ≡ true → IsParted at (targets g u)) → is_among (cond b (row_with at (targets g u)) (map (raised at) (targets g u))) (raised at v) ≡ is_among (targets g u) v
      by true k = among_row at (targets g u) v (k refl)
      by false k = among_raised at (targets g u) v

    edge_none : (v : ℕ) → has_edge joined at v ≡ false
    edge_none v = ap (λ (ws : List ℕ). is_among ws v) row_new

    -- the ways
    path_none : (xs : List ℕ) (v : ℕ) → Path joined at xs v → ⊥
    path_none [] v k = not_both (has_edge joined at v) k (edge_none v)
    path_none (x ∷ xs) v k = not_both (has_edge joined at x) k.0 (edge_none x)

    path_joined : (xs : List ℕ) (u v : ℕ) → Path g u xs v → Path joined (raised at u) (map (raised at) xs) (raised at v)
    path_joined [] u v k = edge_joined u v ∙ k
    path_joined (x ∷ xs) u v k = (edge_joined u x ∙ k.0, path_joined xs x v k.1)

    path_back : (xs : List ℕ) (u v : ℕ) → Path joined (raised at u) xs (raised at v) → Reaches g u v
    path_back [] u v k = ([], sym (edge_joined u v) ∙ k)
    path_back (x ∷ xs) u v k = elim (here_or at x) [
      | inl e ↦ absurd (path_none xs (raised at v) (subst (λ (z : ℕ). Path joined z xs (raised at v)) e k.1))
      | inr there ↦
          let y : ℕ = there.0 in
          let first : has_edge g u y ≡ true = sym (edge_joined u y) ∙ ap (has_edge joined (raised at u)) there.1 ∙ k.0 in
          let more = path_back xs y v (subst (λ (z : ℕ). Path joined z xs (raised at v)) (sym there.1) k.1) in
          (y ∷ more.0, (first, more.1))
    ]

    reaches_joined : (u v : ℕ) → reaches joined (raised at u) (raised at v) ≡ reaches g u v
    reaches_joined u v = same_truth (reaches joined (raised at u) (raised at v)) (reaches g u v)
        (λ k. let there = reaches_path joined (length joined) (raised at u) (raised at v) k in let back = path_back there.0 u v there.1 in path_reaches g back.0 u v back.1)
        (λ k. let there = reaches_path g (length g) u v k in path_reaches joined (map (raised at) there.0) (raised at u) (raised at v) (path_joined there.0 u v there.1))

    reaches_none : (v : ℕ) → reaches joined at v ≡ false
    reaches_none v = none_by (reaches joined at v) (λ k. let there = reaches_path joined (length joined) at v k in path_none there.0 v there.1)

    -- the circles
    circular_joined : (u v : ℕ) → is_circular joined (raised at u) (raised at v) ≡ is_circular g u v
    circular_joined u v = ap (λ (b : Bool). b || reaches joined (raised at v) (raised at u)) (same_test at u v) ∙ ap (λ (b : Bool). (u == v) || b) (reaches_joined v u)

    circular_none : (u : ℕ) → is_circular joined (raised at u) at ≡ false
    circular_none u = ap (λ (b : Bool). b || reaches joined at (raised at u)) (apart_test at u) ∙ reaches_none (raised at u)

    -- and what nodes rest on
    rests_joined : (u : ℕ) → u < length g → rests joined (raised at u) ≡ cond (get_or marks u false) (row_with at (rests g u)) (map (raised at) (rests g u))
    rests_joined u lt = ap (filter test) (row_joined u lt) ∙ by (get_or marks u false) where
      test : ℕ → Bool
      test = λ v. not (is_circular joined (raised at u) v)

      by : (b : Bool) → filter test (cond b (row_with at (targets g u)) (map (raised at) (targets g u))) ≡ cond b (row_with at (rests g u)) (map (raised at) (rests g u))
      by true = left_row at (λ v. not (is_circular g u v)) test (λ v. ap not (circular_joined u v)) (ap not (circular_none u)) (targets g u)
      by false = filter_raised (raised at) test (λ v. not (is_circular g u v)) (λ v. ap not (circular_joined u v)) (targets g u)

    pub sources_old : (v : ℕ) → sources joined (raised at v) ≡ map (raised at) (sources g v)
    sources_old v =
        same_sources at 0 at g marks v parts
        ∙ sources_raised g at [] h v
        ∙ sources_moved g at [] h v

    pub sources_new : sources joined at ≡ marked (map (raised at) (range_with_len 0 (length g))) marks
    sources_new = let here : 0 + at ≡ at = omega arith in new_sources at 0 at g marks here h parts

-- what all nodes rest on
pub all_rests_joined : (g : Graph) (at : ℕ) (marks : List Bool) → at ≤ length g → ((u : ℕ) → get_or marks u false ≡ true → IsParted at (targets g u)) → with_used_node (all_rests g) at marks ≡ all_rests (with_used_node g at marks)
all_rests_joined g at marks h parts = all_rows (with_used_node (all_rests g) at marks) (all_rests (with_used_node g at marks)) same (λ q lt. there q (omega (arith, lt, wide))) where
  long : length (all_rests g) ≡ length g
  long = rests_long g 0 (length g)

  index : at ≤ length (all_rests g)
  index = omega (arith, h, long)

  wide : length (with_used_node (all_rests g) at marks) ≡ length g + 1
  wide = joined_long (all_rests g) at marks index ∙ ap (λ (n : ℕ). n + 1) long

  same : length (with_used_node (all_rests g) at marks) ≡ length (all_rests (with_used_node g at marks))
  same = wide ∙ sym (joined_long g at marks h) ∙ sym (rests_long (with_used_node g at marks) 0 (length (with_used_node g at marks)))

  back : (u : ℕ) → raised at u < length g + 1 → u < length g
  back u lt = elim (cases_lt u at) [
    | inl below ↦ omega (arith, below, h)
    | inr above ↦ let e = raised_above at u above in omega (arith, lt, e)
  ]

  there : (q : ℕ) → q < length g + 1 → get_or (with_used_node (all_rests g) at marks) q [] ≡ get_or (all_rests (with_used_node g at marks)) q []
  there q lt = elim (here_or at q) [
    | inl e ↦ subst (λ (z : ℕ). get_or (with_used_node (all_rests g) at marks) z [] ≡ get_or (all_rests (with_used_node g at marks)) z []) (sym e)
        (row_new (all_rests g) at marks index ∙ sym (rests_there (with_used_node g at marks) at ∙ ap (filter (λ v. not (is_circular (with_used_node g at marks) at v))) (row_new g at marks h)))
    | inr old ↦
        let raised_is = old.1 in
        let u : ℕ = old.0 in
        let below : u < length g = back u (omega (arith, lt, raised_is)) in
        subst (λ (z : ℕ). get_or (with_used_node (all_rests g) at marks) z [] ≡ get_or (all_rests (with_used_node g at marks)) z []) old.1
        (row_joined (all_rests g) at marks index u (omega (arith, below, long))
        ∙ ap (λ (ws : List ℕ). cond (get_or marks u false) (row_with at ws) (map (raised at) ws)) (rests_there g u)
        ∙ sym (rests_joined g at marks h parts u below)
        ∙ sym (rests_there (with_used_node g at marks) (raised at u)))
  ]

-- what is left by a test is parted as well
pub parted_filter : (at : ℕ) (test : ℕ → Bool) (ws : List ℕ) → IsParted at ws → IsParted at (filter test ws)
parted_filter at test ws parts =
    ap (filter test) parts
    ∙ filter-append test (before at ws) (filter (λ w. not (nat_lt w at)) ws)
    ∙ ap (λ (vs : List ℕ). vs ++ filter test (filter (λ w. not (nat_lt w at)) ws)) (swapped (λ w. nat_lt w at) ws)
    ∙ ap (λ (vs : List ℕ). before at (filter test ws) ++ vs) (swapped (λ w. not (nat_lt w at)) ws)
  where
    swapped : (f : ℕ → Bool) (xs : List ℕ) → filter test (filter f xs) ≡ filter f (filter test xs)
    swapped f [] = refl
    swapped f (x ∷ xs) = by (f x) (test x) refl refl (swapped f xs) where
      by : (b c : Bool) → f x ≡ b → test x ≡ c → filter test (filter f xs) ≡ filter f (filter test xs) → filter test (cond b (x ∷ filter f xs) (filter f xs)) ≡ filter f (cond c (x ∷ filter test xs) (filter test xs))
      by true true e k rest =
          ap (λ (d : Bool). cond d (x ∷ filter test (filter f xs)) (filter test (filter f xs))) k
          ∙ ap (λ (vs : List ℕ). x ∷ vs) rest
          ∙ sym (ap (λ (d : Bool). cond d (x ∷ filter f (filter test xs)) (filter f (filter test xs))) e)
      by true false e k rest = ap (λ (d : Bool). cond d (x ∷ filter test (filter f xs)) (filter test (filter f xs))) k ∙ rest
      by false true e k rest = rest ∙ sym (ap (λ (d : Bool). cond d (x ∷ filter f (filter test xs)) (filter f (filter test xs))) e)
      by false false e k rest = rest
