-- A graph whose nodes have numbers that stay, where one more comes to an index.
use Rattle.std.proofs.Common.{◌≡◌, ◌∙◌, ◌+◌, ◌<◌, ◌≤◌, ◌++◌, ◌||◌, ◌==◌, ℕ, zero, suc, Bool, true, false, cond, not, List, [], ◌∷◌, length, map, get_or, refl, sym, ap, subst, inl, inr, arith}
use Rattle.std.specs.Prelude.{slice_set}
use Rattle.std.specs.List.{filter, insert, range_with_len}
use Rattle.std.proofs.lemmas.Bool.{cases_lt, eq-eqb, eqb-false, eqb-true}
use Rattle.std.proofs.lemmas.List.{get_or-map, get_or_append_left, get_or_past, get_or_push, length-map}
use Rattle.std.proofs.lemmas.List.Edits.{get_or-insert_above, get_or-insert_at, get_or-insert_below, length-insert}
use Rattle.occ_project_graph.specs.Adding.{raised, with_node}
use Rattle.occ_project_graph.specs.Graph.{Graph, is_among}
use Rattle.occ_project_graph.specs.Sources.{sources}
use Rattle.occ_project_graph.specs.inside.Linking.{others, with_rows}
use Rattle.occ_project_graph.specs.inside.Numbering.{AreSourceRows, IsNumbered, IsOver, IsSourceRow, graph_by, index_at, indexed, row_by, times_in}
use Rattle.occ_project_graph.proofs.Added.{all_rows, here_or, long_then, none_by, raised_above, raised_below, row_new, row_then}
use Rattle.occ_project_graph.proofs.Replaced.{last_long, rows_long, set_apart, set_here, set_long}
use Rattle.occ_project_graph.proofs.Ways.{edge_below, first_holds, same_truth, second_holds}

-- these are numbers of so many nodes
abbrev pub AreFew : ℕ → List ℕ → Type 0
AreFew count ns = (n : ℕ) → is_among ns n ≡ true → n < count

pub few_first : (count w : ℕ) (ws : List ℕ) → AreFew count (w ∷ ws) → w < count
few_first count w ws few = few w (first_holds (w == w) (is_among ws w) (eq-eqb w w refl))

pub few_rest : (count w : ℕ) (ws : List ℕ) → AreFew count (w ∷ ws) → AreFew count ws
few_rest count w ws few n h = few n (second_holds (w == n) (is_among ws n) h)

-- rows by index
pub by_at : (numbers indices : List ℕ) (rows : Graph) (p : ℕ) → p < length numbers → get_or (graph_by numbers indices rows) p [] ≡ indexed indices (get_or rows (get_or numbers p 0) [])
by_at numbers indices rows p lt = get_or-map (λ (n : ℕ). indexed indices (get_or rows n [])) numbers p 0 [] lt

pub by_long : (numbers indices : List ℕ) (rows : Graph) → length (graph_by numbers indices rows) ≡ length numbers
by_long numbers indices rows = length-map numbers (λ (n : ℕ). indexed indices (get_or rows n []))

pub row_is : (numbers indices : List ℕ) (rows : Graph) (p : ℕ) → indexed indices (row_by numbers rows p) ≡ get_or (graph_by numbers indices rows) p []
row_is numbers indices rows p = elim (cases_lt p (length numbers)) [
  | inl below ↦ ap (indexed indices) (get_or-map (λ (n : ℕ). get_or rows n []) numbers p 0 [] below) ∙ sym (by_at numbers indices rows p below)
  | inr above ↦
      ap (indexed indices) (get_or_past (map (λ (n : ℕ). get_or rows n []) numbers) p [] (let long = length-map numbers (λ (n : ℕ). get_or rows n []) in omega (arith, above, long)))
      ∙ sym (get_or_past (graph_by numbers indices rows) p [] (let long = by_long numbers indices rows in omega (arith, above, long)))
]

pub row_few : (numbers : List ℕ) (rows : Graph) (count p : ℕ) → IsOver count rows → AreFew count (row_by numbers rows p)
row_few numbers rows count p over = elim (cases_lt p (length numbers)) [
  | inl below ↦ λ n h. over.within (get_or numbers p 0) n (ap (λ (ns : List ℕ). is_among ns n) (sym (get_or-map (λ (m : ℕ). get_or rows m []) numbers p 0 [] below)) ∙ h)
  | inr above ↦ λ n h.
      let none : row_by numbers rows p ≡ [] = get_or_past (map (λ (m : ℕ). get_or rows m []) numbers) p [] (let long = length-map numbers (λ (m : ℕ). get_or rows m []) in omega (arith, above, long)) in
      let both : is_among [] n ≡ true = ap (λ (ns : List ℕ). is_among ns n) (sym none) ∙ h in
      absurd cc
]

module _ (numbers indices : List ℕ) (is : IsNumbered numbers indices) where
  -- two numbers are one if their indices are
  pub same_index : (m n : ℕ) → m < length numbers → n < length numbers → (index_at indices m == index_at indices n) ≡ (m == n)
  same_index m n k l = same_truth (index_at indices m == index_at indices n) (m == n)
      (λ e. eq-eqb m n (sym (is.back m k) ∙ ap (λ (p : ℕ). get_or numbers p 0) (eqb-true (index_at indices m) (index_at indices n) e) ∙ is.back n l))
      (λ e. eq-eqb (index_at indices m) (index_at indices n) (ap (index_at indices) (eqb-true m n e)))

  pub among_indexed : (ns : List ℕ) (w : ℕ) → AreFew (length numbers) ns → w < length numbers → is_among (indexed indices ns) (index_at indices w) ≡ is_among ns w
  among_indexed [] w few lt = refl
  among_indexed (n ∷ ns) w few lt =
      ap (λ (b : Bool). b || is_among (indexed indices ns) (index_at indices w)) (same_index n w (few_first (length numbers) n ns few) lt)
      ∙ ap (λ (b : Bool). (n == w) || b) (among_indexed ns w (few_rest (length numbers) n ns few) lt)

  pub times_indexed : (ns : List ℕ) (w : ℕ) → AreFew (length numbers) ns → w < length numbers → times_in (indexed indices ns) (index_at indices w) ≡ times_in ns w
  times_indexed [] w few lt = refl
  times_indexed (n ∷ ns) w few lt = by (index_at indices n == index_at indices w) (n == w) (same_index n w (few_first (length numbers) n ns few) lt) (times_indexed ns w (few_rest (length numbers) n ns few) lt) where
    xs : List ℕ
    xs = filter (λ other. other == index_at indices w) (indexed indices ns)

    ys : List ℕ
    ys = filter (λ other. other == w) ns

    by : (b c : Bool) → b ≡ c → length xs ≡ length ys → length (cond b (index_at indices n ∷ xs) xs) ≡ length (cond c (n ∷ ys) ys)
    by true true e h = ap (λ (k : ℕ). suc k) h
    by true false e h = absurd cc
    by false true e h = absurd cc
    by false false e h = h

  pub others_indexed : (ns : List ℕ) (w : ℕ) → AreFew (length numbers) ns → w < length numbers → indexed indices (others w ns) ≡ others (index_at indices w) (indexed indices ns)
  others_indexed [] w few lt = refl
  others_indexed (n ∷ ns) w few lt = by (index_at indices n == index_at indices w) (n == w) (same_index n w (few_first (length numbers) n ns few) lt) (others_indexed ns w (few_rest (length numbers) n ns few) lt) where
    by : (b c : Bool) → b ≡ c → indexed indices (others w ns) ≡ others (index_at indices w) (indexed indices ns)
        → indexed indices (cond (not c) (n ∷ others w ns) (others w ns)) ≡ cond (not b) (index_at indices n ∷ others (index_at indices w) (indexed indices ns)) (others (index_at indices w) (indexed indices ns))
    by true true e h = h
    by true false e h = absurd cc
    by false true e h = absurd cc
    by false false e h = ap (λ (xs : List ℕ). index_at indices n ∷ xs) h

  -- a row of a number is put at its index
  pub set_by : (rows : Graph) (w : ℕ) (x : List ℕ) → length rows ≡ length numbers → w < length numbers → graph_by numbers indices (slice_set rows w x) ≡ slice_set (graph_by numbers indices rows) (index_at indices w) (indexed indices x)
  set_by rows w x long lt = all_rows (graph_by numbers indices (slice_set rows w x)) (slice_set (graph_by numbers indices rows) (index_at indices w) (indexed indices x))
      (by_long numbers indices (slice_set rows w x) ∙ sym (by_long numbers indices rows) ∙ sym (set_long (graph_by numbers indices rows) (index_at indices w) (indexed indices x)))
      (λ p h. let within : p < length numbers = (let k = by_long numbers indices (slice_set rows w x) in omega (arith, h, k)) in by_at numbers indices (slice_set rows w x) p within ∙ by p within (w == get_or numbers p 0) refl)
    where
      by : (p : ℕ) → p < length numbers → (b : Bool) → (w == get_or numbers p 0) ≡ b
          → indexed indices (get_or (slice_set rows w x) (get_or numbers p 0) []) ≡ get_or (slice_set (graph_by numbers indices rows) (index_at indices w) (indexed indices x)) p []
      by p k true e =
          let same : w ≡ get_or numbers p 0 = eqb-true w (get_or numbers p 0) e in
          let here : index_at indices w ≡ p = ap (index_at indices) same ∙ is.there p k in
          let wide = by_long numbers indices rows in
          ap (λ (n : ℕ). indexed indices (get_or (slice_set rows w x) n [])) (sym same)
          ∙ ap (indexed indices) (set_here rows w x (omega (arith, lt, long)))
          ∙ sym (ap (λ (q : ℕ). get_or (slice_set (graph_by numbers indices rows) q (indexed indices x)) p []) here ∙ set_here (graph_by numbers indices rows) p (indexed indices x) (omega (arith, k, wide)))
      by p k false e =
          let apart : w ≡ get_or numbers p 0 → ⊥ = eqb-false w (get_or numbers p 0) e in
          ap (indexed indices) (set_apart rows w (get_or numbers p 0) x apart)
          ∙ sym (by_at numbers indices rows p k)
          ∙ sym (set_apart (graph_by numbers indices rows) (index_at indices w) p (indexed indices x) (λ q. apart (sym (is.back w lt) ∙ ap (λ (z : ℕ). get_or numbers z 0) q)))

  pub rows_by : (rows : Graph) (ws : List ℕ) (found : Graph) → length rows ≡ length numbers → AreFew (length numbers) ws
      → graph_by numbers indices (with_rows rows ws found) ≡ with_rows (graph_by numbers indices rows) (indexed indices ws) (map (indexed indices) found)
  rows_by rows [] found long few = refl
  rows_by rows (w ∷ ws) [] long few = refl
  rows_by rows (w ∷ ws) (x ∷ found) long few =
      set_by (with_rows rows ws found) w x (rows_long rows ws found ∙ long) (few_first (length numbers) w ws few)
      ∙ ap (λ (g : Graph). slice_set g (index_at indices w) (indexed indices x)) (rows_by rows ws found long (few_rest (length numbers) w ws few))

-- one node more
module _ (numbers indices : List ℕ) (is : IsNumbered numbers indices) (at : ℕ) (h : at ≤ length numbers) where
  abbrev pub numbers_after : List ℕ
  numbers_after = insert numbers at (length numbers)

  abbrev pub indices_after : List ℕ
  indices_after = map (raised at) indices ++ at ∷ []

  pub numbers_long : length numbers_after ≡ length numbers + 1
  numbers_long = length-insert numbers at (length numbers) h

  raised_long : length (map (raised at) indices) ≡ length numbers
  raised_long = length-map indices (raised at) ∙ is.len

  pub index_old : (n : ℕ) → n < length numbers → index_at indices_after n ≡ raised at (index_at indices n)
  index_old n lt =
      let len = is.len in
      get_or_append_left (map (raised at) indices) (at ∷ []) 0 n (omega (arith, lt, raised_long)) ∙ get_or-map (raised at) indices n 0 0 (omega (arith, lt, len))

  pub index_new : index_at indices_after (length numbers) ≡ at
  index_new = get_or_push (map (raised at) indices) at 0 (length numbers) raised_long

  pub number_old : (p : ℕ) → get_or numbers_after (raised at p) 0 ≡ get_or numbers p 0
  number_old p = elim (cases_lt p at) [
    | inl below ↦ ap (λ (q : ℕ). get_or numbers_after q 0) (raised_below at p below) ∙ get_or-insert_below numbers at (length numbers) 0 p below h
    | inr above ↦ ap (λ (q : ℕ). get_or numbers_after q 0) (raised_above at p above) ∙ get_or-insert_above numbers at (length numbers) 0 p above h
  ]

  pub number_new : get_or numbers_after at 0 ≡ length numbers
  number_new = get_or-insert_at numbers at (length numbers) 0 h

  raised_few : (v : ℕ) → v < length numbers → raised at v < length numbers + 1
  raised_few v lt = elim (cases_lt v at) [
    | inl below ↦ let e = raised_below at v below in omega (arith, lt, e)
    | inr above ↦ let e = raised_above at v above in omega (arith, lt, e)
  ]

  pub raised_back : (v : ℕ) → raised at v < length numbers + 1 → v < length numbers
  raised_back v lt = elim (cases_lt v at) [
    | inl below ↦ omega (arith, below, h)
    | inr above ↦ let e = raised_above at v above in omega (arith, lt, e)
  ]

  last_is : (n : ℕ) → n < length numbers_after → length numbers ≤ n → n ≡ length numbers
  last_is n lt le = omega (arith, lt, le, numbers_long)

  pub numbered_after : IsNumbered numbers_after indices_after
  numbered_after = record {
    len = last_long (map (raised at) indices) at ∙ ap (λ (k : ℕ). k + 1) raised_long ∙ sym numbers_long;
    index_within = λ n lt. elim (cases_lt n (length numbers)) [
      | inl below ↦ let e = index_old n below in let few = raised_few (index_at indices n) (is.index_within n below) in omega (arith, e, few, numbers_long)
      | inr above ↦ let e : index_at indices_after n ≡ at = ap (index_at indices_after) (last_is n lt above) ∙ index_new in omega (arith, e, h, numbers_long)
    ];
    number_within = λ p lt. elim (here_or at p) [
      | inl e ↦ let same : get_or numbers_after p 0 ≡ length numbers = ap (λ (q : ℕ). get_or numbers_after q 0) e ∙ number_new in omega (arith, same, numbers_long)
      | inr there ↦
          let raised_is = there.1 in
          let few = is.number_within there.0 (raised_back there.0 (omega (arith, lt, raised_is, numbers_long))) in
          let same : get_or numbers_after p 0 ≡ get_or numbers there.0 0 = ap (λ (q : ℕ). get_or numbers_after q 0) (sym there.1) ∙ number_old there.0 in
          omega (arith, same, few, numbers_long)
    ];
    there = λ p lt. elim (here_or at p) [
      | inl e ↦ ap (λ (q : ℕ). index_at indices_after (get_or numbers_after q 0)) e ∙ ap (index_at indices_after) number_new ∙ index_new ∙ sym e
      | inr there ↦
          let raised_is = there.1 in
          let within : there.0 < length numbers = raised_back there.0 (omega (arith, lt, raised_is, numbers_long)) in
          ap (λ (q : ℕ). index_at indices_after (get_or numbers_after q 0)) (sym there.1) ∙ ap (index_at indices_after) (number_old there.0)
          ∙ index_old (get_or numbers there.0 0) (is.number_within there.0 within) ∙ ap (raised at) (is.there there.0 within) ∙ there.1
    ];
    back = λ n lt. elim (cases_lt n (length numbers)) [
      | inl below ↦ ap (λ (p : ℕ). get_or numbers_after p 0) (index_old n below) ∙ number_old (index_at indices n) ∙ is.back n below
      | inr above ↦
          let last = last_is n lt above in
          ap (λ (m : ℕ). get_or numbers_after (index_at indices_after m) 0) last ∙ ap (λ (p : ℕ). get_or numbers_after p 0) index_new ∙ number_new ∙ sym last
    ];
  }

  -- those of before have risen
  pub indexed_old : (ns : List ℕ) → AreFew (length numbers) ns → indexed indices_after ns ≡ map (raised at) (indexed indices ns)
  indexed_old [] few = refl
  indexed_old (n ∷ ns) few = ap (λ (p : ℕ). p ∷ indexed indices_after ns) (index_old n (few_first (length numbers) n ns few)) ∙ ap (λ (ps : List ℕ). raised at (index_at indices n) ∷ ps) (indexed_old ns (few_rest (length numbers) n ns few))

  -- the numbers of nodes at indices then
  pub numbers_back : (ws : List ℕ) → ((v : ℕ) → is_among ws v ≡ true → v ≤ length numbers) → indexed indices_after (map (λ p. get_or numbers_after p 0) ws) ≡ ws
  numbers_back [] few = refl
  numbers_back (w ∷ ws) few =
      let le : w ≤ length numbers = few w (first_holds (w == w) (is_among ws w) (eq-eqb w w refl)) in
      ap (λ (p : ℕ). p ∷ indexed indices_after (map (λ q. get_or numbers_after q 0) ws)) (numbered_after.there w (omega (arith, le, numbers_long)))
      ∙ ap (λ (ps : List ℕ). w ∷ ps) (numbers_back ws (λ v k. few v (second_holds (w == v) (is_among ws v) k)))

  pub numbers_few : (ws : List ℕ) → ((v : ℕ) → is_among ws v ≡ true → v ≤ length numbers) → AreFew (length numbers + 1) (map (λ p. get_or numbers_after p 0) ws)
  numbers_few [] few n k = absurd cc
  numbers_few (w ∷ ws) few n k = by (get_or numbers_after w 0 == n) refl k (λ j. numbers_few ws (λ v i. few v (second_holds (w == v) (is_among ws v) i)) n j) where
    le : w ≤ length numbers
    le = few w (first_holds (w == w) (is_among ws w) (eq-eqb w w refl))

    by : (b : Bool) → (get_or numbers_after w 0 == n) ≡ b → (b || is_among (map (λ p. get_or numbers_after p 0) ws) n) ≡ true → (is_among (map (λ p. get_or numbers_after p 0) ws) n ≡ true → n < length numbers + 1) → n < length numbers + 1
    by true e j rest =
        let same : get_or numbers_after w 0 ≡ n = eqb-true (get_or numbers_after w 0) n e in
        let lt = numbered_after.number_within w (omega (arith, le, numbers_long)) in
        omega (arith, same, lt, numbers_long)
    by false e j rest = rest j

  -- a row more is that of the new node
  pub graph_after : (rows : Graph) (row : List ℕ) → IsOver (length numbers) rows → graph_by numbers_after indices_after (rows ++ row ∷ []) ≡ with_node (graph_by numbers indices rows) at (indexed indices_after row)
  graph_after rows row over = all_rows (graph_by numbers_after indices_after (rows ++ row ∷ [])) (with_node (graph_by numbers indices rows) at (indexed indices_after row)) same (λ p lt. at_index p (omega (arith, lt, wide))) where
    g : Graph
    g = graph_by numbers indices rows

    index : at ≤ length g
    index = let long = by_long numbers indices rows in omega (arith, h, long)

    wide : length (graph_by numbers_after indices_after (rows ++ row ∷ [])) ≡ length numbers_after
    wide = by_long numbers_after indices_after (rows ++ row ∷ [])

    same : length (graph_by numbers_after indices_after (rows ++ row ∷ [])) ≡ length (with_node g at (indexed indices_after row))
    same = wide ∙ numbers_long ∙ ap (λ (n : ℕ). n + 1) (sym (by_long numbers indices rows)) ∙ sym (long_then g at (indexed indices_after row) index)

    at_index : (p : ℕ) → p < length numbers_after → get_or (graph_by numbers_after indices_after (rows ++ row ∷ [])) p [] ≡ get_or (with_node g at (indexed indices_after row)) p []
    at_index p lt = elim (here_or at p) [
      | inl e ↦
          by_at numbers_after indices_after (rows ++ row ∷ []) p lt
          ∙ ap (λ (q : ℕ). indexed indices_after (get_or (rows ++ row ∷ []) (get_or numbers_after q 0) [])) e
          ∙ ap (λ (n : ℕ). indexed indices_after (get_or (rows ++ row ∷ []) n [])) number_new
          ∙ ap (indexed indices_after) (get_or_push rows row [] (length numbers) over.len)
          ∙ sym (ap (λ (q : ℕ). get_or (with_node g at (indexed indices_after row)) q []) e ∙ row_new g at (indexed indices_after row) index)
      | inr there ↦
          let raised_is = there.1 in
          let u : ℕ = there.0 in
          let within : u < length numbers = raised_back u (omega (arith, lt, raised_is, numbers_long)) in
          let len = over.len in
          let few = is.number_within u within in
          by_at numbers_after indices_after (rows ++ row ∷ []) p lt
          ∙ ap (λ (q : ℕ). indexed indices_after (get_or (rows ++ row ∷ []) (get_or numbers_after q 0) [])) (sym there.1)
          ∙ ap (λ (n : ℕ). indexed indices_after (get_or (rows ++ row ∷ []) n [])) (number_old u)
          ∙ ap (indexed indices_after) (get_or_append_left rows (row ∷ []) [] (get_or numbers u 0) (omega (arith, few, len)))
          ∙ indexed_old (get_or rows (get_or numbers u 0) []) (λ n k. over.within (get_or numbers u 0) n k)
          ∙ ap (map (raised at)) (sym (by_at numbers indices rows u within))
          ∙ sym (row_then g at (indexed indices_after row) index u)
          ∙ ap (λ (q : ℕ). get_or (with_node g at (indexed indices_after row)) q []) there.1
    ]

-- a node that has an index is among those of numbers if its number is
pub node_there : (numbers indices nodes : List ℕ) (p : ℕ) → IsNumbered numbers indices → AreFew (length numbers) nodes → p < length numbers → is_among nodes (get_or numbers p 0) ≡ is_among (indexed indices nodes) p
node_there numbers indices nodes p is few within =
    sym (among_indexed numbers indices is nodes (get_or numbers p 0) few (is.number_within p within)) ∙ ap (is_among (indexed indices nodes)) (is.there p within)

few_indexed : (numbers indices nodes : List ℕ) → IsNumbered numbers indices → AreFew (length numbers) nodes → AreFew (length numbers) (indexed indices nodes)
few_indexed numbers indices [] is few p h = absurd cc
few_indexed numbers indices (n ∷ nodes) is few p h = by (index_at indices n == p) refl h (few_indexed numbers indices nodes is (few_rest (length numbers) n nodes few) p) where
  by : (b : Bool) → (index_at indices n == p) ≡ b → (b || is_among (indexed indices nodes) p) ≡ true → (is_among (indexed indices nodes) p ≡ true → p < length numbers) → p < length numbers
  by true e k rest = subst (λ (q : ℕ). q < length numbers) (eqb-true (index_at indices n) p e) (is.index_within n (few_first (length numbers) n nodes few))
  by false e k rest = rest k

pub node_past : (numbers indices nodes : List ℕ) (p : ℕ) → IsNumbered numbers indices → AreFew (length numbers) nodes → length numbers ≤ p → false ≡ is_among (indexed indices nodes) p
node_past numbers indices nodes p is few le = sym (none_by (is_among (indexed indices nodes) p) (λ h. let lt = few_indexed numbers indices nodes is few p h in omega (arith, lt, le)))

-- numbers from the first on
pub range_next : (a n : ℕ) → range_with_len a n ++ (a + n) ∷ [] ≡ range_with_len a (n + 1)
range_next a zero = let e : a + 0 ≡ a = omega arith in ap (λ (m : ℕ). m ∷ []) e
range_next a (suc n) =
    let e : a + suc n ≡ a + 1 + n = omega arith in
    let k : suc (n + 1) ≡ suc n + 1 = omega arith in
    ap (λ (m : ℕ). a ∷ (range_with_len (a + 1) n ++ m ∷ [])) e ∙ ap (λ (ms : List ℕ). a ∷ ms) (range_next (a + 1) n) ∙ ap (range_with_len a) k

-- all indices are those of nodes
pub all_places : (count : ℕ) (xs : List ℕ) → ((i : ℕ) → i < length xs → get_or xs i 0 < count) → AreFew count xs
all_places count [] f n h = absurd cc
all_places count (x ∷ xs) f n h = by (x == n) refl h (all_places count xs (λ i lt. f (suc i) (omega (arith, lt))) n) where
  by : (b : Bool) → (x == n) ≡ b → (b || is_among xs n) ≡ true → (is_among xs n ≡ true → n < count) → n < count
  by true e k rest = subst (λ (m : ℕ). m < count) (eqb-true x n e) (f 0 (omega arith))
  by false e k rest = rest k

-- a row more is found
pub rows_push : (indices : List ℕ) (sources : Graph) (at number : ℕ) (all ws : List ℕ) (rows : Graph) (w : ℕ) (row : List ℕ) → AreSourceRows indices sources at number all ws rows → IsSourceRow indices at number (times_in all w) (get_or sources w []) row
    → AreSourceRows indices sources at number all (ws ++ w ∷ []) (rows ++ row ∷ [])
rows_push indices sources at number all [] [] w row h r = (r, tt)
rows_push indices sources at number all [] (x ∷ rows) w row h r = absurd h
rows_push indices sources at number all (v ∷ ws) [] w row h r = absurd h
rows_push indices sources at number all (v ∷ ws) (x ∷ rows) w row h r = (h.0, rows_push indices sources at number all ws rows w row h.1 r)

pub rows_many : (indices : List ℕ) (sources : Graph) (at number : ℕ) (all ws : List ℕ) (rows : Graph) → AreSourceRows indices sources at number all ws rows → length rows ≡ length ws
rows_many indices sources at number all [] [] h = refl
rows_many indices sources at number all [] (x ∷ rows) h = absurd h
rows_many indices sources at number all (v ∷ ws) [] h = absurd h
rows_many indices sources at number all (v ∷ ws) (x ∷ rows) h = ap suc (rows_many indices sources at number all ws rows h.1)

-- a row more of so many
pub over_push : (count : ℕ) (rows : Graph) (row : List ℕ) → IsOver count rows → AreFew (count + 1) row → IsOver (count + 1) (rows ++ row ∷ [])
over_push count rows row over few = record {
  len = last_long rows row ∙ ap (λ (n : ℕ). n + 1) over.len;
  within = λ u v e. elim (cases_lt u (length rows)) [
    | inl below ↦ let lt = over.within u v (ap (λ (ws : List ℕ). is_among ws v) (sym (get_or_append_left rows (row ∷ []) [] u below)) ∙ e) in omega (arith, lt)
    | inr above ↦
        let edge = edge_below (rows ++ row ∷ []) u v e in
        let long = last_long rows row in
        let last : length rows ≡ u = omega (arith, edge, long, above) in
        few v (ap (λ (ws : List ℕ). is_among ws v) (sym (get_or_push rows row [] u last)) ∙ e)
  ];
}
