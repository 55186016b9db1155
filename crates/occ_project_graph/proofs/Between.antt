-- A node that comes to an index, to which edges lead from some and from which they lead to others, and which is in no circle.
use Rattle.std.proofs.Common.{◌≡◌, ◌∙◌, ◌+◌, ◌<◌, ◌≤◌, ◌++◌, ◌||◌, ◌==◌, ◌⊎◌, ℕ, Bool, true, false, cond, List, [], ◌∷◌, length, map, take, get_or, refl, sym, ap, subst, inl, inr, arith}
use Rattle.std.specs.Prelude.{slice_set}
use Rattle.std.specs.List.{insert}
use Rattle.std.proofs.lemmas.Bool.{cases_lt, eq-eqb, eqb-false}
use Rattle.std.proofs.lemmas.List.{get_or-take, get_or_append_left, length-take-le}
use Rattle.std.proofs.lemmas.List.Edits.{get_or-insert_at, length-insert}
use Rattle.occ_project_graph.specs.Adding.{IsParted, raised, with_used_node}
use Rattle.occ_project_graph.specs.Graph.{Graph, has_edge, is_among, reaches, targets}
use Rattle.occ_project_graph.specs.inside.Leading.{later_row, later_rows}
use Rattle.occ_project_graph.specs.inside.Linking.{AreLedRows, IsLed, IsLinked, marked, with_rows}
use Rattle.occ_project_graph.specs.inside.Numbering.{graph_by, times_in}
use Rattle.occ_project_graph.proofs.Added.{all_rows, not_both}
use Rattle.occ_project_graph.proofs.Elsewhere.{led_linked, led_view}
use Rattle.occ_project_graph.proofs.Led.{used_linked, used_view}
use Rattle.occ_project_graph.proofs.Numbered.{AreFew}
use Rattle.occ_project_graph.proofs.Replaced.{last_long, rows_at, rows_long, set_apart, set_here, set_long}
use Rattle.occ_project_graph.proofs.Searches.{decide}
use Rattle.occ_project_graph.proofs.Ways.{edge_reaches, first_holds, second_holds}

-- the rows of before come back
pub taken_back : (rows all first : Graph) (nodes : List ℕ) → length rows ≡ length all + 1 → ((q : ℕ) → q < length all → is_among nodes q ≡ false → targets rows q ≡ targets all q)
    → first ≡ take (length all) (with_rows rows nodes (map (λ n. targets all n) nodes)) → first ≡ all
taken_back rows all first nodes long others e = e ∙ all_rows (take (length all) (with_rows rows nodes (map (λ n. targets all n) nodes))) all same (λ q lt. get_or-take (length all) (with_rows rows nodes (map (λ n. targets all n) nodes)) q [] (omega (arith, lt, same)) ∙ rows_at (λ n. targets all n) rows nodes q (omega (arith, lt, same, long)) ∙ by q (omega (arith, lt, same)) (is_among nodes q) refl)
  where
    same : length (take (length all) (with_rows rows nodes (map (λ n. targets all n) nodes))) ≡ length all
    same = let l = rows_long rows nodes (map (λ n. targets all n) nodes) in length-take-le (length all) (with_rows rows nodes (map (λ n. targets all n) nodes)) (omega (arith, l, long))

    by : (q : ℕ) → q < length all → (b : Bool) → is_among nodes q ≡ b → cond b (targets all q) (get_or rows q []) ≡ get_or all q []
    by q lt true e = refl
    by q lt false e = others q lt e

neither : (a b : Bool) → (a || b) ≡ false → (a ≡ false) × (b ≡ false)
neither true b h = absurd cc
neither false b h = (refl, h)

-- rows that are not put stay
rows_off : (g : Graph) (ws : List ℕ) (rows : List (List ℕ)) (q : ℕ) → is_among ws q ≡ false → get_or (with_rows g ws rows) q [] ≡ get_or g q []
rows_off g [] rows q h = refl
rows_off g (w ∷ ws) [] q h = refl
rows_off g (w ∷ ws) (row ∷ rows) q h = let b = neither (w == q) (is_among ws q) h in set_apart (with_rows g ws rows) w q row (eqb-false w q b.0) ∙ rows_off g ws rows q b.1

-- where one row more was put behind all, and others in place of some, each of the rest is as it was
pub record IsAfter (edges after : Graph) (users : List ℕ) : Type 0 where
  pub long : length after ≡ length edges + 1
  pub others : (q : ℕ) → q < length edges → is_among users q ≡ false → targets after q ≡ targets edges q

pub led_long : (indices : List ℕ) (at n : ℕ) (users : List ℕ) (edges put : Graph) → IsLed indices at n users edges put → length put ≡ length edges + 1
led_long indices at n users edges put led = ap (length {A = List ℕ}) led.is ∙ rows_long (edges ++ [] ∷ []) users led.found ∙ last_long edges []

pub is_after : (indices : List ℕ) (at : ℕ) (users : List ℕ) (edges put after : Graph) (n : ℕ) (row : List ℕ) → n ≡ length edges → IsLed indices at n users edges put → after ≡ slice_set put n row → IsAfter edges after users
is_after indices at users edges put after n row last led e = record {
  long = ap (length {A = List ℕ}) e ∙ set_long put n row ∙ led_long indices at n users edges put led;
  others = λ q lt off.
      ap (λ (g : Graph). get_or g q []) e
      ∙ set_apart put n q row (λ same. absurd (omega (arith, same, lt, last)))
      ∙ ap (λ (g : Graph). get_or g q []) led.is ∙ rows_off (edges ++ [] ∷ []) users led.found q off
      ∙ get_or_append_left edges ([] ∷ []) [] q lt;
}

here_among : (m : ℕ) (nodes : List ℕ) → is_among (m ∷ nodes) m ≡ true
here_among m nodes = first_holds (m == m) (is_among nodes m) (eq-eqb m m refl)

-- rows of other nodes than the last one stay where it comes
later_same : (indices : List ℕ) (turned : Graph) (row : List ℕ) (at number : ℕ) (led nodes : List ℕ) → ((m : ℕ) → is_among nodes m ≡ true → m < length turned) → later_rows indices turned at number led nodes ≡ later_rows indices (turned ++ row ∷ []) at number led nodes
later_same indices turned row at number led [] few = refl
later_same indices turned row at number led (m ∷ nodes) few =
    ap (λ (ws : List ℕ). later_row indices at number (times_in led m) ws ∷ later_rows indices turned at number led nodes) (sym (get_or_append_left turned (row ∷ []) [] m (few m (here_among m nodes))))
    ∙ ap (λ (g : Graph). later_row indices at number (times_in led m) (get_or (turned ++ row ∷ []) m []) ∷ g) (later_same indices turned row at number led nodes (λ k e. few k (second_holds (m == k) (is_among nodes k) e)))

-- all that is kept of a graph into which a node comes so
module _ (numbers indices : List ℕ) (edges kept turned : Graph) (is : IsLinked numbers indices edges kept turned) (at : ℕ) (h : at ≤ length numbers) (marks : List Bool)
    (parts : (u : ℕ) → get_or marks u false ≡ true → IsParted at (targets (graph_by numbers indices edges) u)) (joined joined_kept : Graph)
    (are : AreLedRows indices marks at (length numbers) edges joined) (are_kept : AreLedRows indices marks at (length numbers) kept joined_kept)
    (n i : List ℕ) (n_is : n ≡ insert numbers at (length numbers)) (i_is : i ≡ map (raised at) indices ++ at ∷ [])
    (ws : List ℕ) (few : (v : ℕ) → is_among ws v ≡ true → v ≤ length numbers) (led : List ℕ) (led_is : led ≡ map (λ q. get_or n q 0) ws)
    (none : reaches (slice_set joined (length numbers) led) (length numbers) (length numbers) ≡ false) where
  abbrev number : ℕ
  number = length numbers

  abbrev then : Graph
  then = turned ++ marked numbers marks ∷ []

  linked : IsLinked n i joined joined_kept then
  linked = used_linked numbers indices edges kept turned is at h marks parts joined joined_kept are are_kept n i then n_is i_is refl

  n_long : length n ≡ length numbers + 1
  n_long = ap (length {A = ℕ}) n_is ∙ length-insert numbers at (length numbers) h

  few_then : AreFew (length n) ws
  few_then v k = let le = few v k in omega (arith, le, n_long)

  number_is : number ≡ get_or n at 0
  number_is = sym (ap (λ (ns : List ℕ). get_or ns at 0) n_is ∙ get_or-insert_at numbers at (length numbers) 0 h)

  none_before : get_or joined number [] ≡ []
  none_before = ap (λ (m : ℕ). get_or joined m []) (sym is.edges_over.len) ∙ are.last

  none_kept : get_or joined_kept number [] ≡ []
  none_kept = ap (λ (m : ℕ). get_or joined_kept m []) (sym is.rests_over.len) ∙ are_kept.last

  nodes_are : led ≡ get_or joined number [] ++ led
  nodes_are = ap (λ (vs : List ℕ). vs ++ led) (sym none_before)

  pub between_linked : IsLinked n i (slice_set joined number led) (slice_set joined_kept number led) (with_rows then led (later_rows i then at number led led))
  between_linked = led_linked n i joined joined_kept then linked at (omega (arith, h, n_long)) ws few_then number number_is led led_is led nodes_are
      (ap (length {A = ℕ}) none_kept ∙ sym (ap (length {A = ℕ}) none_before)) none

  pub between_view : (g : Graph) → graph_by numbers indices edges ≡ g → graph_by n i (slice_set joined number led) ≡ slice_set (with_used_node g at marks) at ws
  between_view g view =
      led_view n i joined joined_kept then linked at (omega (arith, h, n_long)) ws few_then number number_is led led_is led nodes_are
      ∙ ap (λ (x : Graph). slice_set x at ws) (used_view numbers indices edges kept turned g is at h marks view parts joined are n i n_is i_is)

  led_below : (m : ℕ) → is_among led m ≡ true → m < length numbers
  led_below m k =
      let long = are.len in
      let len = is.edges_over.len in
      let edge : has_edge (slice_set joined number led) number m ≡ true = ap (λ (vs : List ℕ). is_among vs m) (set_here joined number led (omega (arith, long, len))) ∙ k in
      let most = between_linked.edges_over.within number m edge in
      elim (decide m number) [
        | inl e ↦ absurd (not_both (reaches (slice_set joined number led) number number) (edge_reaches (slice_set joined number led) (length (slice_set joined number led)) number number (subst (λ (x : ℕ). has_edge (slice_set joined number led) number x ≡ true) e edge)) none)
        | inr apart ↦ by (cases_lt m (length numbers)) apart (omega (arith, most, n_long))
      ]
    where
      by : (m < length numbers) ⊎ (length numbers ≤ m) → (m ≡ length numbers → ⊥) → m < length numbers + 1 → m < length numbers
      by (inl lt) apart most = lt
      by (inr le) apart most = absurd (apart (omega (arith, le, most)))

  -- the rows of those to which edges lead from it
  pub between_later : later_rows i turned at number led led ≡ later_rows i then at number led led
  between_later = let len = is.turned_over.len in later_same i turned (marked numbers marks) at number led led (λ m k. let lt = led_below m k in omega (arith, lt, len))
