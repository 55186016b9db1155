-- From where edges lead to the nodes of a graph, and all that is kept of one, where one node more comes to an index.
use Rattle.std.proofs.Common.{◌≡◌, ◌∙◌, ◌+◌, ◌-◌, ◌<◌, ◌≤◌, ◌++◌, ◌||◌, ◌==◌, ℕ, zero, suc, Bool, true, false, cond, not, List, [], ◌∷◌, length, map, take, drop, replicate, get_or, refl, sym, ap, subst, inl, inr, arith}
use Rattle.std.specs.Prelude.{nat_lt, slice_set}
use Rattle.std.specs.List.{filter, insert, range_with_len}
use Rattle.std.proofs.lemmas.Bool.{cases_lt, eqb-false, eqb-true, le-ltb, lt-ltb}
use Rattle.std.proofs.lemmas.List.{append-nil, drop-map, drop_at, get_or-append_right, get_or-map, get_or_append_left, get_or_past, length-append, length-map, map-append, take-map, take_at}
use Rattle.std.proofs.lemmas.List.FromFn.{get_or-range_with_len, length-range_with_len}
use Rattle.occ_project_graph.specs.Adding.{raised, with_node}
use Rattle.occ_project_graph.specs.Graph.{Graph, IsWhole, all_rests, has_edge, is_among, is_circular, targets}
use Rattle.occ_project_graph.specs.Sources.{once_each, sources}
use Rattle.occ_project_graph.specs.inside.Components.{IsTurned}
use Rattle.occ_project_graph.specs.inside.Linking.{IsLinked, before, following, others, sources_then, with_rows}
use Rattle.occ_project_graph.specs.inside.Numbering.{AreSourceRows, IsFrontBefore, IsNumbered, IsOver, IsSourceRow, graph_by, index_at, indexed, times_in}
use Rattle.occ_project_graph.proofs.Added.{all_rests_then, all_rows, parted, passed, raised_above, raised_below, rests_long, rests_there}
use Rattle.occ_project_graph.proofs.Numbered.{AreFew, by_at, by_long, few_first, few_rest, graph_after, index_new, index_old, indexed_old, indices_after, numbered_after, numbers_after, numbers_few, numbers_long, numbers_back, others_indexed, over_push, rows_by, times_indexed}
use Rattle.occ_project_graph.proofs.Replaced.{rows_long, set_apart, set_here, set_past, sources_kept, till_new, till_raised}
use Rattle.occ_project_graph.proofs.Turned.{only}
use Rattle.occ_project_graph.proofs.Ways.{edge_below, first_holds}

-- what passes a test at a place
passes_at : (test : ℕ → Bool) (ws : List ℕ) (i : ℕ) → i < length (filter test ws) → test (get_or (filter test ws) i 0) ≡ true
passes_at test [] i lt = absurd (omega (arith, lt))
passes_at test (w ∷ ws) i lt = by (test w) refl i lt (passes_at test ws) where
  by : (b : Bool) → test w ≡ b → (i : ℕ) → i < length (cond b (w ∷ filter test ws) (filter test ws)) → ((j : ℕ) → j < length (filter test ws) → test (get_or (filter test ws) j 0) ≡ true)
      → test (get_or (cond b (w ∷ filter test ws) (filter test ws)) i 0) ≡ true
  by true e zero k rest = e
  by true e (suc i) k rest = rest i (omega (arith, k))
  by false e i k rest = rest i k

below_by : (u at : ℕ) → nat_lt u at ≡ true → u < at
below_by u at h = elim (cases_lt u at) [
  | inl below ↦ below
  | inr above ↦ let none = le-ltb u at above in absurd (cc (none, h))
]

above_by : (u at : ℕ) → not (nat_lt u at) ≡ true → at ≤ u
above_by u at h = elim (cases_lt u at) [
  | inl below ↦ let some = lt-ltb u at below in absurd (cc (some, h))
  | inr above ↦ above
]

behind : ℕ → List ℕ → List ℕ
behind at us = filter (λ u. not (nat_lt u at)) us

raised_before : (at : ℕ) (us : List ℕ) → map (raised at) (before at us) ≡ before at us
raised_before at [] = refl
raised_before at (u ∷ us) = by (nat_lt u at) refl (raised_before at us) where
  by : (b : Bool) → nat_lt u at ≡ b → map (raised at) (before at us) ≡ before at us → map (raised at) (cond b (u ∷ before at us) (before at us)) ≡ cond b (u ∷ before at us) (before at us)
  by true e rest = ap (λ (v : ℕ). v ∷ map (raised at) (before at us)) (raised_below at u (below_by u at e)) ∙ ap (λ (vs : List ℕ). u ∷ vs) rest
  by false e rest = rest

raised_behind : (at : ℕ) (us : List ℕ) → map (raised at) (filter (λ u. not (nat_lt u at)) us) ≡ following at us
raised_behind at [] = refl
raised_behind at (u ∷ us) = by (filter (λ v. not (nat_lt v at)) us) (not (nat_lt u at)) refl (raised_behind at us) where
  by : (vs : List ℕ) (b : Bool) → not (nat_lt u at) ≡ b → map (raised at) vs ≡ map (λ (v : ℕ). v + 1) vs → map (raised at) (cond b (u ∷ vs) vs) ≡ map (λ (v : ℕ). v + 1) (cond b (u ∷ vs) vs)
  by vs true e rest = ap (λ (v : ℕ). v ∷ map (raised at) vs) (raised_above at u (above_by u at e)) ∙ ap (λ (xs : List ℕ). (u + 1) ∷ xs) rest
  by vs false e rest = rest

few_take : (count k : ℕ) (ns : List ℕ) → AreFew count ns → AreFew count (take k ns)
few_take count zero ns few n h = absurd cc
few_take count (suc k) [] few n h = absurd cc
few_take count (suc k) (m ∷ ns) few n h = by (m == n) refl h (few_take count k ns (few_rest count m ns few) n) where
  by : (b : Bool) → (m == n) ≡ b → (b || is_among (take k ns) n) ≡ true → (is_among (take k ns) n ≡ true → n < count) → n < count
  by true e j rest = few n (first_holds (m == n) (is_among ns n) e)
  by false e j rest = rest j

few_drop : (count k : ℕ) (ns : List ℕ) → AreFew count ns → AreFew count (drop k ns)
few_drop count zero ns few n h = few n h
few_drop count (suc k) [] few n h = absurd cc
few_drop count (suc k) (m ∷ ns) few n h = few_drop count k ns (few_rest count m ns few) n h

-- the node of one number, so often
often : (f : ℕ → ℕ) (n p times : ℕ) → f n ≡ p → map f (replicate times n) ≡ replicate times p
often f n p zero e = refl
often f n p (suc times) e = ap (λ (q : ℕ). q ∷ map f (replicate times n)) e ∙ ap (λ (ps : List ℕ). p ∷ ps) (often f n p times e)

once_often : (p : ℕ) (ws : List ℕ) → replicate (length ws) p ≡ map (λ (w : ℕ). p) ws
once_often p [] = refl
once_often p (w ∷ ws) = ap (λ (ps : List ℕ). p ∷ ps) (once_often p ws)

take_none : (k : ℕ) → take {A = ℕ} k [] ≡ []
take_none zero = refl
take_none (suc k) = refl

drop_none : (k : ℕ) → drop {A = ℕ} k [] ≡ []
drop_none zero = refl
drop_none (suc k) = refl

-- no node is among none
no_one : {count : ℕ} → AreFew count []
no_one n h = absurd cc

few_append : (count : ℕ) (xs ys : List ℕ) → AreFew count xs → AreFew count ys → AreFew count (xs ++ ys)
few_append count [] ys a b n h = b n h
few_append count (x ∷ xs) ys a b n h = by (x == n) refl h (few_append count xs ys (few_rest count x xs a) b n) where
  by : (c : Bool) → (x == n) ≡ c → (c || is_among (xs ++ ys) n) ≡ true → (is_among (xs ++ ys) n ≡ true → n < count) → n < count
  by true e k rest = a n (first_holds (x == n) (is_among xs n) e)
  by false e k rest = rest k

few_often : (number times : ℕ) → AreFew (number + 1) (replicate times number)
few_often number zero n h = absurd cc
few_often number (suc times) n h = by (number == n) refl h (few_often number times n) where
  by : (c : Bool) → (number == n) ≡ c → (c || is_among (replicate times number) n) ≡ true → (is_among (replicate times number) n ≡ true → n < number + 1) → n < number + 1
  by true e k rest = let same : number ≡ n = eqb-true number n e in omega (arith, same)
  by false e k rest = rest k

-- rows of which each has few
abbrev AllFew : ℕ → Graph → Type 0
AllFew count [] = Unit {0}
AllFew count (x ∷ xs) = AreFew count x × AllFew count xs

pub few_row : (indices : List ℕ) (at number times : ℕ) (nodes row : List ℕ) → AreFew number nodes → IsSourceRow indices at number times nodes row → AreFew (number + 1) row
few_row indices at number times nodes row few r n h =
    let k = r.front in
    let there : is_among (take k nodes ++ (replicate times number ++ drop k nodes)) n ≡ true = ap (λ (us : List ℕ). is_among us n) (sym r.is) ∙ h in
    few_append (number + 1) (take k nodes) (replicate times number ++ drop k nodes) (λ m j. let lt = few_take number k nodes few m j in omega (arith, lt))
    (few_append (number + 1) (replicate times number) (drop k nodes) (few_often number times) (λ m j. let lt = few_drop number k nodes few m j in omega (arith, lt))) n there

each_few : (indices : List ℕ) (sources : Graph) (at number : ℕ) (all nodes : List ℕ) (rows : Graph) → ((w : ℕ) → AreFew number (get_or sources w [])) → AreSourceRows indices sources at number all nodes rows → AllFew (number + 1) rows
each_few indices sources at number all [] [] few r = tt
each_few indices sources at number all [] (x ∷ rows) few r = absurd r
each_few indices sources at number all (w ∷ nodes) [] few r = absurd r
each_few indices sources at number all (w ∷ nodes) (x ∷ rows) few r = (few_row indices at number (times_in all w) (get_or sources w []) x (few w) r.0, each_few indices sources at number all nodes rows few r.1)

few_of_rows : (count : ℕ) (rows : Graph) (nodes : List ℕ) (xs : Graph) → ((a b : ℕ) → has_edge rows a b ≡ true → b < count) → AllFew count xs → (a b : ℕ) → has_edge (with_rows rows nodes xs) a b ≡ true → b < count
few_of_rows count rows [] xs k q a b e = k a b e
few_of_rows count rows (w ∷ nodes) [] k q a b e = k a b e
few_of_rows count rows (w ∷ nodes) (x ∷ xs) k q a b e = by (with_rows rows nodes xs) (w == a) refl e (few_of_rows count rows nodes xs k q.1 a b) where
  by : (inner : Graph) (c : Bool) → (w == a) ≡ c → has_edge (slice_set inner w x) a b ≡ true → (has_edge inner a b ≡ true → b < count) → b < count
  by inner true same h rest = elim (cases_lt w (length inner)) [
    | inl there ↦
        let is_w : w ≡ a = eqb-true w a same in
        q.0 b (ap (λ (us : List ℕ). is_among us b) (sym (set_here inner w x there)) ∙ ap (λ (n : ℕ). has_edge (slice_set inner w x) n b) is_w ∙ h)
    | inr past ↦ rest (ap (λ (y : Graph). has_edge y a b) (sym (set_past inner w x past)) ∙ h)
  ]
  by inner false other h rest = rest (ap (λ (us : List ℕ). is_among us b) (sym (set_apart inner w a x (eqb-false w a other))) ∙ h)

-- one node more comes to an index
module _ (numbers indices : List ℕ) (edges kept turned : Graph) (is : IsLinked numbers indices edges kept turned) (at : ℕ) (h : at ≤ length numbers) where
  abbrev pub g : Graph
  g = graph_by numbers indices edges

  abbrev pub t : Graph
  t = graph_by numbers indices turned

  g_long : length g ≡ length numbers
  g_long = by_long numbers indices edges

  t_long : length t ≡ length numbers
  t_long = by_long numbers indices turned

  index : at ≤ length g
  index = omega (arith, h, g_long)

  turned_is : IsTurned g t
  turned_is = record { len = t_long ∙ sym g_long; sources_are = λ v lt. is.turned_are v (omega (arith, lt, g_long)) }

  abbrev pub numbers_then : List ℕ
  numbers_then = numbers_after numbers indices is.numbered at h

  abbrev pub indices_then : List ℕ
  indices_then = indices_after numbers indices is.numbered at h

  -- as many nodes are in front as come from before the index
  module _ (nodes : List ℕ) (few : AreFew (length numbers) nodes) (s : List ℕ) (s_is : indexed indices nodes ≡ s) (parts : s ≡ before at s ++ filter (λ u. not (nat_lt u at)) s) where
    s_long : length nodes ≡ length s
    s_long = sym (length-map nodes (index_at indices)) ∙ ap (length {A = ℕ}) s_is

    at_place : (i : ℕ) → i < length nodes → get_or s i 0 ≡ index_at indices (get_or nodes i 0)
    at_place i lt = ap (λ (us : List ℕ). get_or us i 0) (sym s_is) ∙ get_or-map (index_at indices) nodes i 0 0 lt

    all_long : length s ≡ length (before at s) + length (filter (λ u. not (nat_lt u at)) s)
    all_long = ap (length {A = ℕ}) parts ∙ length-append (before at s) (filter (λ u. not (nat_lt u at)) s)

    in_front : (i : ℕ) → i < length (before at s) → get_or s i 0 < at
    in_front i lt =
        let there : get_or s i 0 ≡ get_or (before at s) i 0 = ap (λ (us : List ℕ). get_or us i 0) parts ∙ get_or_append_left (before at s) (filter (λ u. not (nat_lt u at)) s) 0 i lt in
        let low = below_by (get_or (before at s) i 0) at (passes_at (λ u. nat_lt u at) s i lt) in
        omega (arith, there, low)

    not_in_front : (i : ℕ) → length (before at s) ≤ i → i < length s → at ≤ get_or s i 0
    not_in_front i le lt =
        let j : ℕ = i - length (before at s) in
        let there : get_or s i 0 ≡ get_or (filter (λ u. not (nat_lt u at)) s) j 0 = ap (λ (us : List ℕ). get_or us i 0) parts ∙ get_or-append_right (before at s) (filter (λ u. not (nat_lt u at)) s) (length (before at s)) i 0 refl le in
        let high = above_by (get_or (filter (λ u. not (nat_lt u at)) s) j 0) at (passes_at (λ u. not (nat_lt u at)) s j (omega (arith, le, lt, all_long))) in
        omega (arith, there, high)

    front_is : (k : ℕ) → IsFrontBefore indices at nodes k → k ≡ length (before at s)
    front_is k f = elim (cases_lt k (length (before at s))) [
      | inl less ↦
          let within : k < length nodes = omega (arith, less, all_long, s_long) in
          let low = in_front k less in
          let same = at_place k within in
          let high = f.behind k (omega arith) within in
          absurd (omega (arith, low, same, high))
      | inr over ↦ elim (cases_lt (length (before at s)) k) [
        | inl more ↦
            let fits = f.within in
            let within : k - 1 < length nodes = omega (arith, more, fits) in
            let low = f.last (omega (arith, more)) in
            let same = at_place (k - 1) within in
            let high = not_in_front (k - 1) (omega (arith, more)) (omega (arith, within, s_long)) in
            absurd (omega (arith, low, same, high))
        | inr not_more ↦ omega (arith, over, not_more)
      ]
    ]

    pub row_then : (times : ℕ) (row : List ℕ) → IsSourceRow indices at (length numbers) times nodes row → indexed indices_then row ≡ before at s ++ (replicate times at ++ following at s)
    row_then times row r =
        let k = r.front in
        let k_is : k ≡ length (before at s) = front_is k r.is_front in
        let first : indexed indices_then (take k nodes) ≡ before at s =
        indexed_old numbers indices is.numbered at h (take k nodes) (few_take (length numbers) k nodes few)
        ∙ ap (map (raised at)) (sym (take-map (index_at indices) k nodes) ∙ ap (take k) (s_is ∙ parts) ∙ take_at (before at s) (filter (λ u. not (nat_lt u at)) s) k (sym k_is))
        ∙ raised_before at s
        in
        let rest : indexed indices_then (drop k nodes) ≡ following at s =
        indexed_old numbers indices is.numbered at h (drop k nodes) (few_drop (length numbers) k nodes few)
        ∙ ap (map (raised at)) (sym (drop-map (index_at indices) k nodes) ∙ ap (drop k) (s_is ∙ parts) ∙ drop_at (before at s) (filter (λ u. not (nat_lt u at)) s) k (sym k_is))
        ∙ raised_behind at s
        in
        ap (indexed indices_then) r.is
        ∙ map-append (index_at indices_then) (take k nodes) (replicate times (length numbers) ++ drop k nodes)
        ∙ ap (λ (us : List ℕ). us ++ indexed indices_then (replicate times (length numbers) ++ drop k nodes)) first
        ∙ ap (λ (us : List ℕ). before at s ++ us) (map-append (index_at indices_then) (replicate times (length numbers)) (drop k nodes)
        ∙ ap (λ (us : List ℕ). us ++ indexed indices_then (drop k nodes)) (often (index_at indices_then) (length numbers) at times (index_new numbers indices is.numbered at h))
        ∙ ap (λ (us : List ℕ). replicate times at ++ us) rest)

  module _ (row : List ℕ) (few : AreFew (length numbers + 1) row) where
    abbrev pub ws : List ℕ
    ws = indexed indices_then row

    -- the sources of one of the nodes to which edges lead
    times_then : (w : ℕ) → w < length numbers + 1 → replicate (times_in row w) at ≡ once_each at ws (index_at indices_then w)
    times_then w lt =
        let long = numbers_long numbers indices is.numbered at h in
        let more : AreFew (length numbers_then) row = λ n k. let m = few n k in omega (arith, m, long) in
        ap (λ (n : ℕ). replicate n at) (sym (times_indexed numbers_then indices_then (numbered_after numbers indices is.numbered at h) row w more (omega (arith, lt, long))))
        ∙ once_often at (filter (λ x. x == index_at indices_then w) ws)

    source_old : (w : ℕ) (found : List ℕ) → w < length numbers → IsSourceRow indices at (length numbers) (times_in row w) (get_or turned w []) found → indexed indices_then found ≡ sources_then t at ws (index_at indices_then w)
    source_old w found lt r =
        let u : ℕ = index_at indices w in
        let within : u < length numbers = is.numbered.index_within w lt in
        let back : get_or numbers u 0 ≡ w = is.numbered.back w lt in
        let nodes : List ℕ = get_or turned w [] in
        let s : List ℕ = get_or t u [] in
        let s_is : indexed indices nodes ≡ s = sym (by_at numbers indices turned u within ∙ ap (λ (n : ℕ). indexed indices (get_or turned n [])) back) in
        let same : s ≡ sources g u = is.turned_are u within in
        let parts : s ≡ before at s ++ filter (λ v. not (nat_lt v at)) s = subst (λ (us : List ℕ). us ≡ before at us ++ filter (λ v. not (nat_lt v at)) us) (sym same) (parted g at ws index u) in
        row_then nodes (λ n k. is.turned_over.within w n k) s s_is parts (times_in row w) found r
        ∙ ap (λ (us : List ℕ). before at s ++ (us ++ following at s)) (times_then w (omega (arith, lt)) ∙ ap (once_each at ws) (index_old numbers indices is.numbered at h w lt))
        ∙ ap (λ (us : List ℕ). before at us ++ (once_each at ws (raised at u) ++ following at us)) (sym (till_raised g t at ws turned_is index u))
        ∙ ap (sources_then t at ws) (sym (index_old numbers indices is.numbered at h w lt))

    source_new : (found : List ℕ) → IsSourceRow indices at (length numbers) (times_in row (length numbers)) (get_or turned (length numbers) []) found → indexed indices_then found ≡ sources_then t at ws (index_at indices_then (length numbers))
    source_new found r =
        let n : ℕ = length numbers in
        let len = is.turned_over.len in
        let none : get_or turned n [] ≡ [] = get_or_past turned n [] (omega (arith, len)) in
        let k = r.front in
        let front : take k (get_or turned n []) ≡ [] = ap (take k) none ∙ take_none k in
        let rest : drop k (get_or turned n []) ≡ [] = ap (drop k) none ∙ drop_none k in
        let new = index_new numbers indices is.numbered at h in
        ap (indexed indices_then) (r.is ∙ ap (λ (us : List ℕ). us ++ (replicate (times_in row n) n ++ drop k (get_or turned n []))) front ∙ ap (λ (us : List ℕ). replicate (times_in row n) n ++ us) rest ∙ append-nil (replicate (times_in row n) n))
        ∙ often (index_at indices_then) n at (times_in row n) new
        ∙ times_then n (omega arith)
        ∙ ap (once_each at ws) new
        ∙ sym (append-nil (once_each at ws at))
        ∙ sym (ap (λ (us : List ℕ). before at us ++ (once_each at ws at ++ following at us)) (till_new g t at ws turned_is index))
        ∙ ap (sources_then t at ws) (sym new)

    source_any : (w : ℕ) (found : List ℕ) → w < length numbers + 1 → IsSourceRow indices at (length numbers) (times_in row w) (get_or turned w []) found → indexed indices_then found ≡ sources_then t at ws (index_at indices_then w)
    source_any w found lt r = elim (cases_lt w (length numbers)) [
      | inl old ↦ source_old w found old r
      | inr new ↦
          let last : w ≡ length numbers = omega (arith, lt, new) in
          subst (λ (n : ℕ). indexed indices_then found ≡ sources_then t at ws (index_at indices_then n)) (sym last) (source_new found (subst (λ (n : ℕ). IsSourceRow indices at (length numbers) (times_in row n) (get_or turned n []) found) last r))
    ]

    found_then : (nodes : List ℕ) (found : Graph) → AreFew (length numbers + 1) nodes → AreSourceRows indices turned at (length numbers) row nodes found → map (indexed indices_then) found ≡ map (sources_then t at ws) (indexed indices_then nodes)
    found_then [] [] k r = refl
    found_then [] (x ∷ found) k r = absurd r
    found_then (w ∷ nodes) [] k r = absurd r
    found_then (w ∷ nodes) (x ∷ found) k r =
        ap (λ (us : List ℕ). us ∷ map (indexed indices_then) found) (source_any w x (few_first (length numbers + 1) w nodes k) r.0)
        ∙ ap (λ (g : Graph). sources_then t at ws (index_at indices_then w) ∷ g) (found_then nodes found (few_rest (length numbers + 1) w nodes k) r.1)

    few_others : AreFew (length numbers + 1) (others (length numbers) row)
    few_others n k = few n (passed (λ w. not (w == length numbers)) row n k)

    module _ (found : Graph) (r : AreSourceRows indices turned at (length numbers) row row found) where
      wide : length numbers_then ≡ length numbers + 1
      wide = numbers_long numbers indices is.numbered at h

      numbered : IsNumbered numbers_then indices_then
      numbered = numbered_after numbers indices is.numbered at h

      edges_are : graph_by numbers_then indices_then (edges ++ row ∷ []) ≡ with_node g at ws
      edges_are = graph_after numbers indices is.numbered at h edges row is.edges_over

      rests_are : graph_by numbers_then indices_then (kept ++ others (length numbers) row ∷ []) ≡ all_rests (graph_by numbers_then indices_then (edges ++ row ∷ []))
      rests_are =
          graph_after numbers indices is.numbered at h kept (others (length numbers) row) is.rests_over
          ∙ ap (λ (x : Graph). with_node x at (indexed indices_then (others (length numbers) row))) is.rests_are
          ∙ ap (with_node (all_rests g) at) (others_indexed numbers_then indices_then numbered row (length numbers) (λ n k. let m = few n k in omega (arith, m, wide)) (omega (arith, wide))
          ∙ ap (λ (p : ℕ). others p ws) (index_new numbers indices is.numbered at h))
          ∙ all_rests_then g at ws index
          ∙ ap all_rests (sym edges_are)

      abbrev pub turned_new : Graph
      turned_new = with_rows (turned ++ [] ∷ []) row found

      push_long : length (turned ++ [] ∷ []) ≡ length numbers_then
      push_long = (over_push (length numbers) turned [] is.turned_over no_one).len ∙ sym wide

      turned_by : graph_by numbers_then indices_then turned_new ≡ with_rows (with_node t at []) ws (map (sources_then t at ws) ws)
      turned_by =
          rows_by numbers_then indices_then numbered (turned ++ [] ∷ []) row found push_long (λ n k. let m = few n k in omega (arith, m, wide))
          ∙ ap (λ (x : Graph). with_rows x ws (map (indexed indices_then) found)) (graph_after numbers indices is.numbered at h turned [] is.turned_over)
          ∙ ap (with_rows (with_node t at []) ws) (found_then row found few r)

      turned_long : length turned_new ≡ length numbers_then
      turned_long = rows_long (turned ++ [] ∷ []) row found ∙ push_long

      then_long : length (graph_by numbers_then indices_then (edges ++ row ∷ [])) ≡ length numbers_then
      then_long = by_long numbers_then indices_then (edges ++ row ∷ [])

      turned_are : (p : ℕ) → p < length numbers_then → get_or (graph_by numbers_then indices_then turned_new) p [] ≡ sources (graph_by numbers_then indices_then (edges ++ row ∷ [])) p
      turned_are p lt =
          let same : length (with_node g at ws) ≡ length numbers_then = ap (length {A = List ℕ}) (sym edges_are) ∙ then_long in
          ap (λ (x : Graph). get_or x p []) turned_by
          ∙ sources_kept g t at ws turned_is index p (omega (arith, lt, same))
          ∙ ap (λ (x : Graph). sources x p) (sym edges_are)

      -- what is in the rows turned round are numbers of nodes
      turned_few : (u v : ℕ) → has_edge turned_new u v ≡ true → v < length numbers_then
      turned_few u v e =
          let lt = few_of_rows (length numbers + 1) (turned ++ [] ∷ []) row found (λ a b k. (over_push (length numbers) turned [] is.turned_over no_one).within a b k) (each_few indices turned at (length numbers) row row found (λ w n k. is.turned_over.within w n k) r) u v e in
          omega (arith, lt, wide)

      pub linked_then : IsLinked numbers_then indices_then (edges ++ row ∷ []) (kept ++ others (length numbers) row ∷ []) turned_new
      linked_then = record {
        numbered = numbered;
        edges_over = subst (λ (n : ℕ). IsOver n (edges ++ row ∷ [])) (sym wide) (over_push (length numbers) edges row is.edges_over few);
        rests_over = subst (λ (n : ℕ). IsOver n (kept ++ others (length numbers) row ∷ [])) (sym wide) (over_push (length numbers) kept (others (length numbers) row) is.rests_over few_others);
        turned_over = record { len = turned_long; within = turned_few };
        rests_are = rests_are;
        turned_are = turned_are;
      }

      pub graph_then : graph_by numbers_then indices_then (edges ++ row ∷ []) ≡ with_node g at ws
      graph_then = edges_are

-- the first numbers are the indices
pub at_first : (count n : ℕ) → n < count → get_or (range_with_len 0 count) n 0 ≡ n
at_first count n lt = get_or-range_with_len 0 count n 0 lt ∙ (let e : 0 + n ≡ n = omega arith in e)

pub first_long : (count : ℕ) → length (range_with_len 0 count) ≡ count
first_long count = length-range_with_len 0 count

pub first_numbered : (count : ℕ) → IsNumbered (range_with_len 0 count) (range_with_len 0 count)
first_numbered count = record {
  len = refl;
  index_within = λ n lt. let same = at_first count n (omega (arith, lt, first_long count)) in omega (arith, same, lt);
  number_within = λ n lt. let same = at_first count n (omega (arith, lt, first_long count)) in omega (arith, same, lt);
  there = λ n lt. let within : n < count = omega (arith, lt, first_long count) in ap (λ (m : ℕ). get_or (range_with_len 0 count) m 0) (at_first count n within) ∙ at_first count n within;
  back = λ n lt. let within : n < count = omega (arith, lt, first_long count) in ap (λ (m : ℕ). get_or (range_with_len 0 count) m 0) (at_first count n within) ∙ at_first count n within;
}

first_indexed : (count : ℕ) (ns : List ℕ) → AreFew count ns → indexed (range_with_len 0 count) ns ≡ ns
first_indexed count [] few = refl
first_indexed count (n ∷ ns) few = ap (λ (m : ℕ). m ∷ indexed (range_with_len 0 count) ns) (at_first count n (few_first count n ns few)) ∙ ap (λ (ms : List ℕ). n ∷ ms) (first_indexed count ns (few_rest count n ns few))

pub first_graph : (count : ℕ) (rows : Graph) → IsOver count rows → graph_by (range_with_len 0 count) (range_with_len 0 count) rows ≡ rows
first_graph count rows over = all_rows (graph_by (range_with_len 0 count) (range_with_len 0 count) rows) rows (by_long (range_with_len 0 count) (range_with_len 0 count) rows ∙ first_long count ∙ sym over.len) (λ p lt.
    let within : p < count = (let long = by_long (range_with_len 0 count) (range_with_len 0 count) rows in omega (arith, lt, long, first_long count)) in
    by_at (range_with_len 0 count) (range_with_len 0 count) rows p (omega (arith, within, first_long count))
    ∙ ap (λ (n : ℕ). indexed (range_with_len 0 count) (get_or rows n [])) (at_first count p within)
    ∙ first_indexed count (get_or rows p []) (λ n k. over.within p n k))

rests_few : (rows : Graph) → IsWhole rows → IsOver (length rows) (all_rests rows)
rests_few rows whole = record {
  len = rests_long rows 0 (length rows);
  within = λ u v e. whole u v (passed (λ w. not (is_circular rows u w)) (targets rows u) v (ap (λ (us : List ℕ). is_among us v) (sym (rests_there rows u)) ∙ e));
}

turned_few_of : (rows turned : Graph) → length turned ≡ length rows → ((v : ℕ) → v < length rows → get_or turned v [] ≡ sources rows v) → IsOver (length rows) turned
turned_few_of rows turned len are = record {
  len = len;
  within = λ v u e.
      let row = edge_below turned v u e in
      let there : is_among (sources rows v) u ≡ true = ap (λ (us : List ℕ). is_among us u) (sym (are v (omega (arith, row, len)))) ∙ e in
      edge_below rows u v (only rows u v there);
}

pub first_linked : (count : ℕ) (rows kept turned : Graph) → count ≡ length rows → IsWhole rows → kept ≡ all_rests rows → length turned ≡ length rows → ((v : ℕ) → v < length rows → get_or turned v [] ≡ sources rows v)
    → IsLinked (range_with_len 0 count) (range_with_len 0 count) rows kept turned
first_linked count rows kept turned c whole k len are =
    let over : IsOver count rows = record { len = sym c; within = λ u v e. let lt = whole u v e in omega (arith, lt, c) } in
    let kept_over : IsOver count kept = subst (λ (n : ℕ). IsOver n kept) (sym c) (subst (IsOver (length rows)) (sym k) (rests_few rows whole)) in
    let turned_over : IsOver count turned = subst (λ (n : ℕ). IsOver n turned) (sym c) (turned_few_of rows turned len are) in
    let long : length (range_with_len 0 count) ≡ count = first_long count in
    record {
      numbered = first_numbered count;
      edges_over = subst (λ (n : ℕ). IsOver n rows) (sym long) over;
      rests_over = subst (λ (n : ℕ). IsOver n kept) (sym long) kept_over;
      turned_over = subst (λ (n : ℕ). IsOver n turned) (sym long) turned_over;
      rests_are = first_graph count kept kept_over ∙ k ∙ ap all_rests (sym (first_graph count rows over));
      turned_are = λ p lt. ap (λ (x : Graph). get_or x p []) (first_graph count turned turned_over) ∙ are p (omega (arith, lt, long, c)) ∙ ap (λ (x : Graph). sources x p) (sym (first_graph count rows over));
    }

-- with what a graph made of edges keeps
pub of_linked : (n i : List ℕ) (rows kept turned : Graph) (a b : ℕ) → n ≡ range_with_len 0 a → i ≡ range_with_len 0 b → a ≡ length rows → b ≡ length rows → IsWhole rows → kept ≡ all_rests rows → length turned ≡ length rows → ((v : ℕ) → v < length rows → get_or turned v [] ≡ sources rows v)
    → IsLinked n i rows kept turned
of_linked n i rows kept turned a b e f c d whole k len are =
    let same : b ≡ a = d ∙ sym c in
    subst (λ (ns : List ℕ). IsLinked ns i rows kept turned) (sym e) (subst (λ (is : List ℕ). IsLinked (range_with_len 0 a) is rows kept turned) (sym (f ∙ ap (range_with_len 0) same)) (first_linked a rows kept turned c whole k len are))

pub of_view : (n i : List ℕ) (rows : Graph) (a b : ℕ) → n ≡ range_with_len 0 a → i ≡ range_with_len 0 b → a ≡ length rows → b ≡ length rows → IsWhole rows → graph_by n i rows ≡ rows
of_view n i rows a b e f c d whole =
    let same : b ≡ a = d ∙ sym c in
    ap (λ (ns : List ℕ). graph_by ns i rows) e ∙ ap (λ (is : List ℕ). graph_by (range_with_len 0 a) is rows) (f ∙ ap (range_with_len 0) same) ∙ first_graph a rows (record { len = sym c; within = λ u v h. let lt = whole u v h in omega (arith, lt, c) })

-- and one with a node more
pub add_linked : (numbers indices : List ℕ) (edges kept turned : Graph) (is : IsLinked numbers indices edges kept turned) (at : ℕ) (h : at ≤ length numbers) (row : List ℕ) → AreFew (length numbers + 1) row → (found : Graph) → AreSourceRows indices turned at (length numbers) row row found
    → (n i : List ℕ) (e k t : Graph) → n ≡ insert numbers at (length numbers) → i ≡ map (raised at) indices ++ at ∷ [] → e ≡ edges ++ row ∷ [] → k ≡ kept ++ others (length numbers) row ∷ [] → t ≡ with_rows (turned ++ [] ∷ []) row found → IsLinked n i e k t
add_linked numbers indices edges kept turned is at h row few found r n i e k t n_is i_is e_is k_is t_is =
    subst (λ (x : List ℕ). IsLinked x i e k t) (sym n_is) (subst (λ (x : List ℕ). IsLinked (insert numbers at (length numbers)) x e k t) (sym i_is)
    (subst (λ (x : Graph). IsLinked (insert numbers at (length numbers)) (map (raised at) indices ++ at ∷ []) x k t) (sym e_is)
    (subst (λ (x : Graph). IsLinked (insert numbers at (length numbers)) (map (raised at) indices ++ at ∷ []) (edges ++ row ∷ []) x t) (sym k_is)
    (subst (λ (x : Graph). IsLinked (insert numbers at (length numbers)) (map (raised at) indices ++ at ∷ []) (edges ++ row ∷ []) (kept ++ others (length numbers) row ∷ []) x) (sym t_is)
    (linked_then numbers indices edges kept turned is at h row few found r)))))

pub add_view : (numbers indices : List ℕ) (edges kept turned g : Graph) (is : IsLinked numbers indices edges kept turned) (at : ℕ) (h : at ≤ length numbers) (row targets : List ℕ) → graph_by numbers indices edges ≡ g → row ≡ map (λ (p : ℕ). get_or (insert numbers at (length numbers)) p 0) targets
    → ((v : ℕ) → is_among targets v ≡ true → v ≤ length numbers) → (n i : List ℕ) (e : Graph) → n ≡ insert numbers at (length numbers) → i ≡ map (raised at) indices ++ at ∷ [] → e ≡ edges ++ row ∷ [] → graph_by n i e ≡ with_node g at targets
add_view numbers indices edges kept turned g is at h row targets view row_is within n i e n_is i_is e_is =
    ap (λ (x : List ℕ). graph_by x i e) n_is ∙ ap (λ (x : List ℕ). graph_by (insert numbers at (length numbers)) x e) i_is ∙ ap (graph_by (insert numbers at (length numbers)) (map (raised at) indices ++ at ∷ [])) e_is
    ∙ graph_after numbers indices is.numbered at h edges row is.edges_over
    ∙ ap (with_node (graph_by numbers indices edges) at) (ap (indexed (map (raised at) indices ++ at ∷ [])) row_is ∙ numbers_back numbers indices is.numbered at h targets within)
    ∙ ap (λ (x : Graph). with_node x at targets) view

pub add_few : (numbers indices : List ℕ) (is : IsNumbered numbers indices) (at : ℕ) (h : at ≤ length numbers) (row targets : List ℕ) → row ≡ map (λ (p : ℕ). get_or (insert numbers at (length numbers)) p 0) targets → ((v : ℕ) → is_among targets v ≡ true → v ≤ length numbers) → AreFew (length numbers + 1) row
add_few numbers indices is at h row targets row_is within = subst (AreFew (length numbers + 1)) (sym row_is) (numbers_few numbers indices is at h targets within)
