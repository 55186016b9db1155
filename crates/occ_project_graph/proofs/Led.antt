-- All that is kept of a graph, where one node more comes to an index, to which edges lead from marked ones and from which none leads.
use Rattle.std.specs.Global.{Global}
use Rattle.std.proofs.Common.{◌≡◌, ◌∙◌, ◌+◌, ◌<◌, ◌≤◌, ◌++◌, ◌||◌, ◌==◌, ◌⊎◌, ℕ, zero, suc, Bool, true, false, cond, List, [], ◌∷◌, Option, Some, None, Vec, length, map, take, get_or, refl, sym, ap, subst, inl, inr, arith}
use Rattle.std.specs.List.{insert, range_with_len}
use Rattle.std.specs.Prelude.{slice_set}
use Rattle.std.proofs.lemmas.Bool.{cases_lt, eq-eqb, eqb-false, eqb-true}
use Rattle.std.proofs.lemmas.List.{get_or-map, get_or_append_left, get_or_push, length-map, length-take-le, take_more}
use Rattle.occ_project_graph.specs.Adding.{IsParted, raised, row_with, with_node, with_used_node}
use Rattle.occ_project_graph.specs.Graph.{Graph, all_rests, is_among, targets}
use Rattle.occ_project_graph.specs.Sources.{sources}
use Rattle.occ_project_graph.specs.inside.Linking.{AreLed, AreLedRests, AreLedRows, IsLed, IsLedRow, IsLinked, marked, rests_kept, with_rows}
use Rattle.occ_project_graph.specs.inside.Numbering.{IsNumbered, IsOver, IsSourceRow, graph_by, index_at, indexed}
use Rattle.occ_project_graph.proofs.Added.{all_rows, here_or, none_by, rests_there}
use Rattle.occ_project_graph.proofs.Added as added
use Rattle.occ_project_graph.proofs.Joined.{all_rests_joined, joined_long, parted_filter, row_joined, row_new, sources_new, sources_old}
use Rattle.occ_project_graph.proofs.Numbered.{AreFew, all_places, by_at, by_long, few_first, few_rest, graph_after, index_old, indexed_old, number_new, number_old, numbered_after, numbers_long, over_push, raised_back}
use Rattle.occ_project_graph.proofs.Renumbered.{at_first, few_row, first_long, row_then}
use Rattle.occ_project_graph.proofs.Replaced.{last_long, rows_long, set_apart, set_here}
use Rattle.occ_project_graph.proofs.Ways.{edge_below, first_holds, same_truth, second_holds}

-- lists that agree at each place
pub all_numbers : (xs ys : List ℕ) → length xs ≡ length ys → ((p : ℕ) → p < length xs → get_or xs p 0 ≡ get_or ys p 0) → xs ≡ ys
all_numbers [] [] l k = refl
all_numbers [] (y ∷ ys) l k = cc
all_numbers (x ∷ xs) [] l k = cc
all_numbers (x ∷ xs) (y ∷ ys) l k =
    let less : length xs ≡ length ys = omega (arith, l) in
    ap (λ (z : ℕ). z ∷ xs) (k 0 (omega arith)) ∙ ap (λ (zs : List ℕ). y ∷ zs) (all_numbers xs ys less (λ p lt. k (suc p) (omega (arith, lt))))

marked_map : (f : ℕ → ℕ) (ns : List ℕ) (marks : List Bool) → map f (marked ns marks) ≡ marked (map f ns) marks
marked_map f [] marks = refl
marked_map f (n ∷ ns) [] = refl
marked_map f (n ∷ ns) (true ∷ marks) = ap (λ (ms : List ℕ). f n ∷ ms) (marked_map f ns marks)
marked_map f (n ∷ ns) (false ∷ marks) = marked_map f ns marks

marked_few : (count : ℕ) (ns : List ℕ) (marks : List Bool) → AreFew count ns → AreFew count (marked ns marks)
marked_few count [] marks few m k = absurd cc
marked_few count (n ∷ ns) [] few m k = absurd cc
marked_few count (n ∷ ns) (true ∷ marks) few m k = by (n == m) refl k (marked_few count ns marks (few_rest count n ns few) m) where
  by : (b : Bool) → (n == m) ≡ b → (b || is_among (marked ns marks) m) ≡ true → (is_among (marked ns marks) m ≡ true → m < count) → m < count
  by true e j rest = subst (λ (x : ℕ). x < count) (eqb-true n m e) (few_first count n ns few)
  by false e j rest = rest j
marked_few count (n ∷ ns) (false ∷ marks) few m k = marked_few count ns marks (few_rest count n ns few) m k

-- one more at the end
pub marked_more : (ns : List ℕ) (n : ℕ) (marks : List Bool) → marked (ns ++ n ∷ []) marks ≡ marked ns marks ++ cond (get_or marks (length ns) false) (n ∷ []) []
marked_more [] n [] = refl
marked_more [] n (true ∷ marks) = refl
marked_more [] n (false ∷ marks) = refl
marked_more (x ∷ ns) n [] = refl
marked_more (x ∷ ns) n (true ∷ marks) = ap (λ (ms : List ℕ). x ∷ ms) (marked_more ns n marks)
marked_more (x ∷ ns) n (false ∷ marks) = marked_more ns n marks

pub marked_next : (numbers : List ℕ) (marks : List Bool) (i : ℕ) (found next : List ℕ) (b : Bool) → i < length numbers → found ≡ marked (take i numbers) marks → b ≡ get_or marks i false → next ≡ found ++ cond b (get_or numbers i 0 ∷ []) [] → next ≡ marked (take (i + 1) numbers) marks
marked_next numbers marks i found next b lt f e n =
    n
    ∙ ap (λ (ms : List ℕ). ms ++ cond b (get_or numbers i 0 ∷ []) []) f
    ∙ ap (λ (c : Bool). marked (take i numbers) marks ++ cond c (get_or numbers i 0 ∷ []) []) (e ∙ ap (λ (k : ℕ). get_or marks k false) (sym (length-take-le i numbers (omega (arith, lt)))))
    ∙ sym (marked_more (take i numbers) (get_or numbers i 0) marks)
    ∙ ap (λ (ns : List ℕ). marked ns marks) (sym (take_more numbers i 0 lt))

module _ (numbers indices : List ℕ) (edges kept turned : Graph) (is : IsLinked numbers indices edges kept turned) (at : ℕ) (h : at ≤ length numbers) (marks : List Bool) where
  abbrev pub numbers_then : List ℕ
  numbers_then = insert numbers at (length numbers)

  abbrev pub indices_then : List ℕ
  indices_then = map (raised at) indices ++ at ∷ []

  n_long : length numbers_then ≡ length numbers + 1
  n_long = numbers_long numbers indices is.numbered at h

  module _ (rows led : Graph) (over : IsOver (length numbers) rows) (are : AreLedRows indices marks at (length numbers) rows led) where
    abbrev pub x : Graph
    x = graph_by numbers indices rows

    x_long : length x ≡ length numbers
    x_long = by_long numbers indices rows

    index : at ≤ length x
    index = omega (arith, h, x_long)

    wide : length (graph_by numbers_then indices_then led) ≡ length numbers_then
    wide = by_long numbers_then indices_then led

    same : length (graph_by numbers_then indices_then led) ≡ length (with_used_node x at marks)
    same = wide ∙ n_long ∙ ap (λ (n : ℕ). n + 1) (sym x_long) ∙ sym (joined_long x at marks index)

    row_by_number : (u : ℕ) → u < length numbers → (b : Bool) → (b ≡ true → IsParted at (targets x u)) → IsLedRow indices at (length numbers) b (get_or rows (get_or numbers u 0) []) (get_or led (get_or numbers u 0) [])
        → indexed indices_then (get_or led (get_or numbers u 0) []) ≡ cond b (row_with at (targets x u)) (map (raised at) (targets x u))
    row_by_number u within true part r =
        row_then numbers indices edges kept turned is at h (get_or rows (get_or numbers u 0) []) (λ m k. over.within (get_or numbers u 0) m k) (targets x u) (sym (by_at numbers indices rows u within)) (part refl) 1 (get_or led (get_or numbers u 0) []) r
    row_by_number u within false part r =
        ap (indexed indices_then) r
        ∙ indexed_old numbers indices is.numbered at h (get_or rows (get_or numbers u 0) []) (λ m k. over.within (get_or numbers u 0) m k)
        ∙ ap (map (raised at)) (sym (by_at numbers indices rows u within))

    pub led_view : ((u : ℕ) → get_or marks u false ≡ true → IsParted at (targets x u)) → graph_by numbers_then indices_then led ≡ with_used_node x at marks
    led_view parts = all_rows (graph_by numbers_then indices_then led) (with_used_node x at marks) same (λ p lt. at_index p (omega (arith, lt, wide))) where
      at_index : (p : ℕ) → p < length numbers_then → get_or (graph_by numbers_then indices_then led) p [] ≡ get_or (with_used_node x at marks) p []
      at_index p lt = elim (here_or at p) [
        | inl e ↦
            by_at numbers_then indices_then led p lt
            ∙ ap (λ (q : ℕ). indexed indices_then (get_or led (get_or numbers_then q 0) [])) e
            ∙ ap (λ (n : ℕ). indexed indices_then (get_or led n [])) (number_new numbers indices is.numbered at h)
            ∙ ap (indexed indices_then) (ap (λ (n : ℕ). get_or led n []) (sym over.len) ∙ are.last)
            ∙ sym (ap (λ (q : ℕ). get_or (with_used_node x at marks) q []) e ∙ row_new x at marks index)
        | inr there ↦
            let raised_is = there.1 in
            let u : ℕ = there.0 in
            let within : u < length numbers = raised_back numbers indices is.numbered at h u (omega (arith, lt, raised_is, n_long)) in
            let n : ℕ = get_or numbers u 0 in
            let few = is.numbered.number_within u within in
            let len = over.len in
            let row : IsLedRow indices at (length numbers) (get_or marks u false) (get_or rows n []) (get_or led n []) =
            subst (λ (q : ℕ). IsLedRow indices at (length numbers) (get_or marks q false) (get_or rows n []) (get_or led n [])) (is.numbered.there u within) (are.led n (omega (arith, few, len))) in
            by_at numbers_then indices_then led p lt
            ∙ ap (λ (q : ℕ). indexed indices_then (get_or led (get_or numbers_then q 0) [])) (sym there.1)
            ∙ ap (λ (m : ℕ). indexed indices_then (get_or led m [])) (number_old numbers indices is.numbered at h u)
            ∙ row_by_number u within (get_or marks u false) (parts u) row
            ∙ sym (row_joined x at marks index u (omega (arith, within, x_long)))
            ∙ ap (λ (q : ℕ). get_or (with_used_node x at marks) q []) there.1
      ]

    few_by : (b : Bool) (before row : List ℕ) → AreFew (length numbers) before → IsLedRow indices at (length numbers) b before row → AreFew (length numbers + 1) row
    few_by true before row few r m k = few_row indices at (length numbers) 1 before row few r m k
    few_by false before row few r m k = let lt = few m (ap (λ (ns : List ℕ). is_among ns m) (sym r) ∙ k) in omega (arith, lt)

    pub led_over : IsOver (length numbers + 1) led
    led_over = record {
      len = are.len ∙ ap (λ (n : ℕ). n + 1) over.len;
      within = λ u v e. elim (cases_lt u (length rows)) [
        | inl below ↦ few_by (get_or marks (index_at indices u) false) (get_or rows u []) (get_or led u []) (λ m k. over.within u m k) (are.led u below) v e
        | inr above ↦
            let edge = edge_below led u v e in
            let len = are.len in
            let last : u ≡ length rows = omega (arith, edge, len, above) in
            let none : is_among [] v ≡ true = ap (λ (ws : List ℕ). is_among ws v) (sym (ap (λ (n : ℕ). get_or led n []) last ∙ are.last)) ∙ e in
            absurd cc
      ];
    }

  abbrev pub g : Graph
  g = graph_by numbers indices edges

  g_long : length g ≡ length numbers
  g_long = by_long numbers indices edges

  at_g : at ≤ length g
  at_g = omega (arith, h, g_long)

  abbrev pub users : List ℕ
  users = marked numbers marks

  users_few : AreFew (length numbers + 1) users
  users_few m k = let lt = marked_few (length numbers) numbers marks (all_places (length numbers) numbers (λ i lt. is.numbered.number_within i lt)) m k in omega (arith, lt)

  numbers_are : indexed indices_then numbers ≡ map (raised at) (range_with_len 0 (length numbers))
  numbers_are = all_numbers (indexed indices_then numbers) (map (raised at) (range_with_len 0 (length numbers))) long (λ p lt. there p (omega (arith, lt, near))) where
    near : length (indexed indices_then numbers) ≡ length numbers
    near = length-map numbers (index_at indices_then)

    long : length (indexed indices_then numbers) ≡ length (map (raised at) (range_with_len 0 (length numbers)))
    long = near ∙ sym (first_long (length numbers)) ∙ sym (length-map (range_with_len 0 (length numbers)) (raised at))

    there : (p : ℕ) → p < length numbers → get_or (indexed indices_then numbers) p 0 ≡ get_or (map (raised at) (range_with_len 0 (length numbers))) p 0
    there p lt =
        get_or-map (index_at indices_then) numbers p 0 0 lt
        ∙ index_old numbers indices is.numbered at h (get_or numbers p 0) (is.numbered.number_within p lt)
        ∙ ap (raised at) (is.numbered.there p lt ∙ sym (at_first (length numbers) p lt))
        ∙ sym (get_or-map (raised at) (range_with_len 0 (length numbers)) p 0 0 (let all = first_long (length numbers) in omega (arith, lt, all)))

  users_are : indexed indices_then users ≡ marked (map (raised at) (range_with_len 0 (length numbers))) marks
  users_are = marked_map (index_at indices_then) numbers marks ∙ ap (λ (ns : List ℕ). marked ns marks) numbers_are

  module _ (parts : (u : ℕ) → get_or marks u false ≡ true → IsParted at (targets g u)) (led led_kept : Graph) (are : AreLedRows indices marks at (length numbers) edges led) (are_kept : AreLedRows indices marks at (length numbers) kept led_kept) where
    pub edges_are : graph_by numbers_then indices_then led ≡ with_used_node g at marks
    edges_are = led_view edges led is.edges_over are parts

    kept_parts : (u : ℕ) → get_or marks u false ≡ true → IsParted at (targets (graph_by numbers indices kept) u)
    kept_parts u m = subst (IsParted at) (sym (ap (λ (y : Graph). targets y u) is.rests_are ∙ rests_there g u)) (parted_filter at _ (targets g u) (parts u m))

    rests_are : graph_by numbers_then indices_then led_kept ≡ all_rests (graph_by numbers_then indices_then led)
    rests_are =
        led_view kept led_kept is.rests_over are_kept kept_parts
        ∙ ap (λ (y : Graph). with_used_node y at marks) is.rests_are
        ∙ all_rests_joined g at marks at_g parts
        ∙ ap all_rests (sym edges_are)

    abbrev pub t : Graph
    t = graph_by numbers indices turned

    at_t : at ≤ length t
    at_t = let long = by_long numbers indices turned in omega (arith, h, long)

    turned_are : (p : ℕ) → p < length numbers_then → get_or (graph_by numbers_then indices_then (turned ++ users ∷ [])) p [] ≡ sources (graph_by numbers_then indices_then led) p
    turned_are p lt =
        ap (λ (y : Graph). get_or y p []) (graph_after numbers indices is.numbered at h turned users is.turned_over)
        ∙ by (here_or at p)
        ∙ sym (ap (λ (y : Graph). sources y p) edges_are)
      where
        by : (p ≡ at) ⊎ ((u : ℕ) × (raised at u ≡ p)) → get_or (with_node t at (indexed indices_then users)) p [] ≡ sources (with_used_node g at marks) p
        by (inl e) =
            ap (λ (q : ℕ). get_or (with_node t at (indexed indices_then users)) q []) e
            ∙ added.row_new t at (indexed indices_then users) at_t
            ∙ users_are
            ∙ ap (λ (n : ℕ). marked (map (raised at) (range_with_len 0 n)) marks) (sym g_long)
            ∙ sym (ap (sources (with_used_node g at marks)) e ∙ sources_new g at marks at_g parts)
        by (inr there) =
            let raised_is = there.1 in
            let u : ℕ = there.0 in
            let within : u < length numbers = raised_back numbers indices is.numbered at h u (omega (arith, lt, raised_is, n_long)) in
            ap (λ (q : ℕ). get_or (with_node t at (indexed indices_then users)) q []) (sym there.1)
            ∙ added.row_then t at (indexed indices_then users) at_t u
            ∙ ap (map (raised at)) (is.turned_are u within)
            ∙ sym (sources_old g at marks at_g parts u)
            ∙ ap (sources (with_used_node g at marks)) there.1

    pub led_linked : IsLinked numbers_then indices_then led led_kept (turned ++ users ∷ [])
    led_linked = record {
      numbered = numbered_after numbers indices is.numbered at h;
      edges_over = subst (λ (n : ℕ). IsOver n led) (sym n_long) (led_over edges led is.edges_over are);
      rests_over = subst (λ (n : ℕ). IsOver n led_kept) (sym n_long) (led_over kept led_kept is.rests_over are_kept);
      turned_over = subst (λ (n : ℕ). IsOver n (turned ++ users ∷ [])) (sym n_long) (over_push (length numbers) turned users is.turned_over users_few);
      rests_are = rests_are;
      turned_are = turned_are;
    }

-- with what a graph keeps then
pub used_linked : (numbers indices : List ℕ) (edges kept turned : Graph) (is : IsLinked numbers indices edges kept turned) (at : ℕ) (h : at ≤ length numbers) (marks : List Bool)
    → ((u : ℕ) → get_or marks u false ≡ true → IsParted at (targets (graph_by numbers indices edges) u)) → (led led_kept : Graph) → AreLedRows indices marks at (length numbers) edges led → AreLedRows indices marks at (length numbers) kept led_kept
    → (n i : List ℕ) (t : Graph) → n ≡ insert numbers at (length numbers) → i ≡ map (raised at) indices ++ at ∷ [] → t ≡ turned ++ marked numbers marks ∷ [] → IsLinked n i led led_kept t
used_linked numbers indices edges kept turned is at h marks parts led led_kept are are_kept n i t n_is i_is t_is =
    subst (λ (x : List ℕ). IsLinked x i led led_kept t) (sym n_is) (subst (λ (x : List ℕ). IsLinked (insert numbers at (length numbers)) x led led_kept t) (sym i_is)
    (subst (λ (x : Graph). IsLinked (insert numbers at (length numbers)) (map (raised at) indices ++ at ∷ []) led led_kept x) (sym t_is)
    (led_linked numbers indices edges kept turned is at h marks parts led led_kept are are_kept)))

pub used_view : (numbers indices : List ℕ) (edges kept turned g : Graph) (is : IsLinked numbers indices edges kept turned) (at : ℕ) (h : at ≤ length numbers) (marks : List Bool) → graph_by numbers indices edges ≡ g
    → ((u : ℕ) → get_or marks u false ≡ true → IsParted at (targets (graph_by numbers indices edges) u)) → (led : Graph) → AreLedRows indices marks at (length numbers) edges led
    → (n i : List ℕ) → n ≡ insert numbers at (length numbers) → i ≡ map (raised at) indices ++ at ∷ [] → graph_by n i led ≡ with_used_node g at marks
used_view numbers indices edges kept turned g is at h marks view parts led are n i n_is i_is =
    ap (λ (x : List ℕ). graph_by x i led) n_is ∙ ap (λ (x : List ℕ). graph_by (insert numbers at (length numbers)) x led) i_is
    ∙ led_view numbers indices edges kept turned is at h marks edges led is.edges_over are parts
    ∙ ap (λ (y : Graph). with_used_node y at marks) view

-- a node is among those that have a mark if its place has one
marked_place : (ns : List ℕ) (marks : List Bool) (n : ℕ) → is_among (marked ns marks) n ≡ true → (p : ℕ) × ((p < length ns) × ((get_or ns p 0 ≡ n) × (get_or marks p false ≡ true)))
marked_place [] marks n k = absurd cc
marked_place (x ∷ ns) [] n k = absurd cc
marked_place (x ∷ ns) (true ∷ marks) n k = by (x == n) refl k (marked_place ns marks n) where
  by : (b : Bool) → (x == n) ≡ b → (b || is_among (marked ns marks) n) ≡ true → (is_among (marked ns marks) n ≡ true → (p : ℕ) × ((p < length ns) × ((get_or ns p 0 ≡ n) × (get_or marks p false ≡ true))))
      → (p : ℕ) × ((p < suc (length ns)) × ((get_or (x ∷ ns) p 0 ≡ n) × (get_or (true ∷ marks) p false ≡ true)))
  by true e j rest = (0, (omega arith, (eqb-true x n e, refl)))
  by false e j rest = let there = rest j in let lt = there.1.0 in (suc there.0, (omega (arith, lt), there.1.1))
marked_place (x ∷ ns) (false ∷ marks) n k = let there = marked_place ns marks n k in let lt = there.1.0 in (suc there.0, (omega (arith, lt), there.1.1))

among_place : (ns : List ℕ) (marks : List Bool) (p : ℕ) → p < length ns → get_or marks p false ≡ true → is_among (marked ns marks) (get_or ns p 0) ≡ true
among_place [] marks p lt m = absurd (omega (arith, lt))
among_place (x ∷ ns) [] p lt m = absurd cc
among_place (x ∷ ns) (true ∷ marks) zero lt m = first_holds (x == x) (is_among (marked ns marks) x) (eq-eqb x x refl)
among_place (x ∷ ns) (false ∷ marks) zero lt m = absurd cc
among_place (x ∷ ns) (true ∷ marks) (suc p) lt m = second_holds (x == get_or ns p 0) (is_among (marked ns marks) (get_or ns p 0)) (among_place ns marks p (omega (arith, lt)) m)
among_place (x ∷ ns) (false ∷ marks) (suc p) lt m = among_place ns marks p (omega (arith, lt)) m

among_marked : (numbers indices : List ℕ) (marks : List Bool) (n : ℕ) → IsNumbered numbers indices → n < length numbers → is_among (marked numbers marks) n ≡ get_or marks (index_at indices n) false
among_marked numbers indices marks n is lt = same_truth (is_among (marked numbers marks) n) (get_or marks (index_at indices n) false)
    (λ k.
    let there = marked_place numbers marks n k in
    let place : index_at indices n ≡ there.0 = ap (index_at indices) (sym there.1.1.0) ∙ is.there there.0 there.1.0 in
    ap (λ (p : ℕ). get_or marks p false) place ∙ there.1.1.1)
    (λ m. ap (is_among (marked numbers marks)) (sym (is.back n lt)) ∙ among_place numbers marks (index_at indices n) (is.index_within n lt) m)

-- each row is one of those that were put, or stands as it stood
rows_put : (P : ℕ → List ℕ → Type 0) (g : Graph) (ws : List ℕ) (rows : Graph) → length rows ≡ length ws → ((i : ℕ) → i < length ws → P (get_or ws i 0) (get_or rows i [])) → (q : ℕ) → q < length g
    → (is_among ws q ≡ true → P q (get_or (with_rows g ws rows) q [])) × (is_among ws q ≡ false → get_or (with_rows g ws rows) q [] ≡ get_or g q [])
rows_put P g [] rows len each q lt = (λ k. absurd cc, λ k. refl)
rows_put P g (w ∷ ws) [] len each q lt = cc
rows_put P g (w ∷ ws) (row ∷ rows) len each q lt = by (w == q) refl (rows_put P g ws rows (omega (arith, len)) (λ i less. each (suc i) (omega (arith, less))) q lt) where
  by : (b : Bool) → (w == q) ≡ b → (is_among ws q ≡ true → P q (get_or (with_rows g ws rows) q [])) × (is_among ws q ≡ false → get_or (with_rows g ws rows) q [] ≡ get_or g q [])
      → ((b || is_among ws q) ≡ true → P q (get_or (slice_set (with_rows g ws rows) w row) q [])) × ((b || is_among ws q) ≡ false → get_or (slice_set (with_rows g ws rows) w row) q [] ≡ get_or g q [])
  by true e rest =
      let same : w ≡ q = eqb-true w q e in
      let long = rows_long g ws rows in
      let here : get_or (slice_set (with_rows g ws rows) w row) q [] ≡ row = ap (λ (x : ℕ). get_or (slice_set (with_rows g ws rows) x row) q []) same ∙ set_here (with_rows g ws rows) q row (omega (arith, lt, long)) in
      (λ k. subst (P q) (sym here) (subst (λ (x : ℕ). P x row) same (each 0 (omega arith))), λ k. absurd cc)
  by false e rest =
      let there : get_or (slice_set (with_rows g ws rows) w row) q [] ≡ get_or (with_rows g ws rows) q [] = set_apart (with_rows g ws rows) w q row (eqb-false w q e) in
      (λ k. subst (P q) (sym there) (rest.0 k), λ k. there ∙ rest.1 k)

-- so the rows of those that have a mark are put
pub led_are : (numbers indices : List ℕ) (marks : List Bool) (at number : ℕ) (nodes : List ℕ) (before rows : Graph) → IsNumbered numbers indices → length before ≡ length numbers → nodes ≡ marked numbers marks
    → IsLed indices at number nodes before rows → AreLedRows indices marks at number before rows
led_are numbers indices marks at number nodes before rows is len users h = record {
  len = ap (length {A = List ℕ}) h.is ∙ rows_long g nodes h.found ∙ last_long before [];
  led = λ n lt. row_at n lt (is_among nodes n) refl;
  last = ap (λ (x : Graph). get_or x (length before) []) h.is ∙ (put (length before) (omega (arith, long))).1 none ∙ get_or_push before [] [] (length before) refl;
} where
  g : Graph
  g = before ++ [] ∷ []

  long : length g ≡ length before + 1
  long = last_long before []

  put : (q : ℕ) → q < length g → (is_among nodes q ≡ true → IsSourceRow indices at number 1 (get_or before q []) (get_or (with_rows g nodes h.found) q [])) × (is_among nodes q ≡ false → get_or (with_rows g nodes h.found) q [] ≡ get_or g q [])
  put q lt = rows_put (λ m row. IsSourceRow indices at number 1 (get_or before m []) row) g nodes h.found h.are.len h.are.led q lt

  few : AreFew (length numbers) nodes
  few = subst (AreFew (length numbers)) (sym users) (marked_few (length numbers) numbers marks (all_places (length numbers) numbers (λ i lt. is.number_within i lt)))

  none : is_among nodes (length before) ≡ false
  none = none_by (is_among nodes (length before)) (λ k. let lt = few (length before) k in omega (arith, lt, len))

  mark : (n : ℕ) → n < length before → is_among nodes n ≡ get_or marks (index_at indices n) false
  mark n lt = ap (λ (ns : List ℕ). is_among ns n) users ∙ among_marked numbers indices marks n is (omega (arith, lt, len))

  row_at : (n : ℕ) → n < length before → (b : Bool) → is_among nodes n ≡ b → IsLedRow indices at number (get_or marks (index_at indices n) false) (get_or before n []) (get_or rows n [])
  row_at n lt true e =
      subst (λ (b : Bool). IsLedRow indices at number b (get_or before n []) (get_or rows n [])) (sym e ∙ mark n lt)
      (subst (λ (x : Graph). IsSourceRow indices at number 1 (get_or before n []) (get_or x n [])) (sym h.is) ((put n (omega (arith, lt, long))).0 e))
  row_at n lt false e =
      subst (λ (b : Bool). IsLedRow indices at number b (get_or before n []) (get_or rows n [])) (sym e ∙ mark n lt)
      (ap (λ (x : Graph). get_or x n []) h.is ∙ (put n (omega (arith, lt, long))).1 e ∙ get_or_append_left before ([] ∷ []) [] n lt)

-- what is kept of what nodes rest on
pub led_kept : (numbers indices : List ℕ) (marks : List Bool) (at number : ℕ) (nodes : List ℕ) (edges led : Graph) (rests next : Option (Vec (List ℕ) Global)) → IsNumbered numbers indices → length (rests_kept edges rests) ≡ length numbers → nodes ≡ marked numbers marks
    → AreLedRows indices marks at number edges led → AreLedRests indices at number nodes rests next → AreLedRows indices marks at number (rests_kept edges rests) (rests_kept led next)
led_kept numbers indices marks at number nodes edges led None None is len all are k = are
led_kept numbers indices marks at number nodes edges led None (Some rows) is len all are k = absurd k
led_kept numbers indices marks at number nodes edges led (Some before) None is len all are k = absurd k
led_kept numbers indices marks at number nodes edges led (Some before) (Some rows) is len all are k = led_are numbers indices marks at number nodes before.items rows.items is len all k

-- one row more
pub led_more : (indices : List ℕ) (at number : ℕ) (before : Graph) (nodes : List ℕ) (rows : Graph) (i : ℕ) (row : List ℕ) → AreLed indices at number before (take i nodes) rows → i < length nodes
    → IsSourceRow indices at number 1 (get_or before (get_or nodes i 0) []) row → AreLed indices at number before (take (i + 1) nodes) (rows ++ row ∷ [])
led_more indices at number before nodes rows i row h lt r = subst (λ (ws : List ℕ). AreLed indices at number before ws (rows ++ row ∷ [])) (sym (take_more nodes i 0 lt)) (record {
  len = last_long rows row ∙ ap (λ (n : ℕ). n + 1) h.len ∙ sym (last_long (take i nodes) (get_or nodes i 0));
  led = λ k less. by k (cases_lt k (length (take i nodes))) less;
}) where
  by : (k : ℕ) → (k < length (take i nodes)) ⊎ (length (take i nodes) ≤ k) → k < length (take i nodes ++ get_or nodes i 0 ∷ []) → IsSourceRow indices at number 1 (get_or before (get_or (take i nodes ++ get_or nodes i 0 ∷ []) k 0) []) (get_or (rows ++ row ∷ []) k [])
  by k (inl below) less =
      let long = h.len in
      subst (λ (w : ℕ). IsSourceRow indices at number 1 (get_or before w []) (get_or (rows ++ row ∷ []) k [])) (sym (get_or_append_left (take i nodes) (get_or nodes i 0 ∷ []) 0 k below))
      (subst (IsSourceRow indices at number 1 (get_or before (get_or (take i nodes) k 0) [])) (sym (get_or_append_left rows (row ∷ []) [] k (omega (arith, below, long)))) (h.led k below))
  by k (inr above) less =
      let more = last_long (take i nodes) (get_or nodes i 0) in
      let last : length (take i nodes) ≡ k = omega (arith, less, more, above) in
      subst (λ (w : ℕ). IsSourceRow indices at number 1 (get_or before w []) (get_or (rows ++ row ∷ []) k [])) (sym (get_or_push (take i nodes) (get_or nodes i 0) 0 k last))
      (subst (IsSourceRow indices at number 1 (get_or before (get_or nodes i 0) [])) (sym (get_or_push rows row [] k (h.len ∙ last))) r)
