-- Rows that are replaced, and all that is kept of a graph with one node more.
use Rattle.std.proofs.Common.{◌≡◌, ◌∙◌, ◌+◌, ◌-◌, ◌<◌, ◌≤◌, ◌++◌, ◌||◌, ◌==◌, ℕ, zero, suc, Bool, true, false, cond, List, [], ◌∷◌, length, map, take, get_or, refl, sym, ap, subst, inl, inr, arith}
use Rattle.std.specs.Prelude.{nat_lt, slice_set}
use Rattle.std.proofs.lemmas.Bool.{cases_lt, eq-eqb, eqb-false, eqb-true, le-ltb, lt-ltb}
use Rattle.std.proofs.lemmas.List.{append-nil, length-take-le, take_more}
use Rattle.occ_project_graph.specs.Adding.{raised, with_node}
use Rattle.occ_project_graph.specs.Graph.{Graph, is_among}
use Rattle.occ_project_graph.specs.Sources.{once_each, sources}
use Rattle.occ_project_graph.specs.inside.Components.{IsTurned}
use Rattle.occ_project_graph.specs.inside.Linking.{before, following, sources_then, sources_till, with_rows}
use Rattle.occ_project_graph.proofs.Added.{here_or, long_then, none_by, once_none, raised_above, raised_apart, raised_below, row_new, row_then, sources_moved, sources_new, sources_raised}
use Rattle.occ_project_graph.proofs.Ways.{first_holds, second_holds}

-- a node at an index among others is one of them
pub among_there : (ws : List ℕ) (i : ℕ) → i < length ws → is_among ws (get_or ws i 0) ≡ true
among_there [] i lt = absurd (omega (arith, lt))
among_there (x ∷ ws) zero lt = first_holds (x == x) (is_among ws x) (eq-eqb x x refl)
among_there (x ∷ ws) (suc i) lt = second_holds (x == get_or ws i 0) (is_among ws (get_or ws i 0)) (among_there ws i (omega (arith, lt)))

-- the last of the rows is put first
pub rows_last : (g : Graph) (ws : List ℕ) (rows : List (List ℕ)) (w : ℕ) (row : List ℕ) → length ws ≡ length rows → with_rows g (ws ++ w ∷ []) (rows ++ row ∷ []) ≡ with_rows (slice_set g w row) ws rows
rows_last g [] [] w row e = refl
rows_last g [] (x ∷ rows) w row e = cc
rows_last g (v ∷ ws) [] w row e = cc
rows_last g (v ∷ ws) (x ∷ rows) w row e = ap (λ (h : Graph). slice_set h v x) (rows_last g ws rows w row (omega (arith, e)))

pub last_long : {X : Type 0} (xs : List X) (x : X) → length (xs ++ x ∷ []) ≡ length xs + 1
last_long [] x = refl
last_long (y ∷ xs) x = let more = last_long xs x in omega (arith, more)

-- what is left to put after so many
pub record IsPutting (ws : List ℕ) (all g : Graph) (found : List (List ℕ)) : Type 0 where
  pub few : length found ≤ length ws
  pub rows : with_rows g (take (length found) ws) found ≡ all

pub take_whole : (ws : List ℕ) → take (length ws) ws ≡ ws
take_whole [] = refl
take_whole (w ∷ ws) = ap (λ (vs : List ℕ). w ∷ vs) (take_whole ws)

pub putting_begun : (ws : List ℕ) (g : Graph) (found : List (List ℕ)) → length found ≡ length ws → IsPutting ws (with_rows g ws found) g found
putting_begun ws g found e = record {
  few = omega (arith, e);
  rows = ap (λ (vs : List ℕ). with_rows g vs found) (ap (λ (n : ℕ). take n ws) e ∙ take_whole ws);
}

pub putting_more : (ws : List ℕ) (all g next : Graph) (found less : List (List ℕ)) (row : List ℕ) → IsPutting ws all g found → found ≡ less ++ row ∷ [] → next ≡ slice_set g (get_or ws (length less) 0) row → IsPutting ws all next less
putting_more ws all g next found less row h f n =
    let long : length found ≡ length less + 1 = ap (length {A = List ℕ}) f ∙ last_long less row in
    let few = h.few in
    let under : length less < length ws = omega (arith, long, few) in
    let within : length less ≤ length ws = omega (arith, under) in
    let split : take (length found) ws ≡ take (length less) ws ++ get_or ws (length less) 0 ∷ [] = ap (λ (n : ℕ). take n ws) long ∙ take_more ws (length less) 0 under in
    record {
      few = within;
      rows =
          ap (λ (x : Graph). with_rows x (take (length less) ws) less) n
          ∙ sym (rows_last g (take (length less) ws) less (get_or ws (length less) 0) row (length-take-le (length less) ws within))
          ∙ sym (ap (λ (vs : List ℕ). with_rows g vs (less ++ row ∷ [])) split)
          ∙ sym (ap (with_rows g (take (length found) ws)) f)
          ∙ h.rows;
    }

pub putting_over : (ws : List ℕ) (all g : Graph) → IsPutting ws all g [] → g ≡ all
putting_over ws all g h = by ws h.rows where
  by : (vs : List ℕ) → with_rows g (take 0 vs) [] ≡ all → g ≡ all
  by [] e = e
  by (v ∷ vs) e = e

pub set_long : (g : Graph) (p : ℕ) (row : List ℕ) → length (slice_set g p row) ≡ length g
set_long [] p row = refl
set_long (x ∷ g) zero row = refl
set_long (x ∷ g) (suc p) row = ap suc (set_long g p row)

pub set_past : (g : Graph) (p : ℕ) (row : List ℕ) → length g ≤ p → slice_set g p row ≡ g
set_past [] p row le = refl
set_past (x ∷ g) zero row le = absurd (omega (arith, le))
set_past (x ∷ g) (suc p) row le = ap (λ (h : Graph). x ∷ h) (set_past g p row (omega (arith, le)))

pub set_here : (g : Graph) (p : ℕ) (row : List ℕ) → p < length g → get_or (slice_set g p row) p [] ≡ row
set_here [] p row lt = absurd (omega (arith, lt))
set_here (x ∷ g) zero row lt = refl
set_here (x ∷ g) (suc p) row lt = set_here g p row (omega (arith, lt))

pub set_apart : (g : Graph) (p q : ℕ) (row : List ℕ) → (p ≡ q → ⊥) → get_or (slice_set g p row) q [] ≡ get_or g q []
set_apart [] p q row n = refl
set_apart (x ∷ g) zero zero row n = absurd (n refl)
set_apart (x ∷ g) zero (suc q) row n = refl
set_apart (x ∷ g) (suc p) zero row n = refl
set_apart (x ∷ g) (suc p) (suc q) row n = set_apart g p q row (λ e. n (ap suc e))

pub rows_long : (g : Graph) (ws : List ℕ) (rows : List (List ℕ)) → length (with_rows g ws rows) ≡ length g
rows_long g [] rows = refl
rows_long g (w ∷ ws) [] = refl
rows_long g (w ∷ ws) (row ∷ rows) = set_long (with_rows g ws rows) w row ∙ rows_long g ws rows

-- each row is the one that was put, or stands as it stood
pub rows_at : (f : ℕ → List ℕ) (g : Graph) (ws : List ℕ) (q : ℕ) → q < length g → get_or (with_rows g ws (map f ws)) q [] ≡ cond (is_among ws q) (f q) (get_or g q [])
rows_at f g [] q lt = refl
rows_at f g (w ∷ ws) q lt = by (w == q) refl (rows_at f g ws q lt) where
  by : (b : Bool) → (w == q) ≡ b → get_or (with_rows g ws (map f ws)) q [] ≡ cond (is_among ws q) (f q) (get_or g q [])
      → get_or (slice_set (with_rows g ws (map f ws)) w (f w)) q [] ≡ cond (b || is_among ws q) (f q) (get_or g q [])
  by true e rest =
      let same : w ≡ q = eqb-true w q e in
      let long = rows_long g ws (map f ws) in
      ap (λ (x : ℕ). get_or (slice_set (with_rows g ws (map f ws)) x (f x)) q []) same ∙ set_here (with_rows g ws (map f ws)) q (f q) (omega (arith, lt, long))
  by false e rest = set_apart (with_rows g ws (map f ws)) w q (f w) (eqb-false w q e) ∙ rest

module _ (g turned : Graph) (p : ℕ) (ws : List ℕ) (is : IsTurned g turned) (h : p ≤ length g) where
  index : p ≤ length turned
  index = let len = is.len in omega (arith, h, len)

  pub till_raised : (v : ℕ) → sources_till turned p (raised p v) ≡ get_or turned v []
  till_raised v = ap (λ (b : Bool). cond b [] (get_or turned (cond (nat_lt (raised p v) p) (raised p v) (raised p v - 1)) [])) (none_by (raised p v == p) (λ e. raised_apart p v (eqb-true (raised p v) p e))) ∙ ap (λ (x : ℕ). get_or turned x []) back where
    back : cond (nat_lt (raised p v) p) (raised p v) (raised p v - 1) ≡ v
    back = elim (cases_lt v p) [
      | inl below ↦
          let e = raised_below p v below in
          ap (λ (b : Bool). cond b (raised p v) (raised p v - 1)) (lt-ltb (raised p v) p (omega (arith, below, e))) ∙ e
      | inr above ↦
          let e = raised_above p v above in
          ap (λ (b : Bool). cond b (raised p v) (raised p v - 1)) (le-ltb (raised p v) p (omega (arith, above, e))) ∙ omega (arith, e)
    ]

  pub till_new : sources_till turned p p ≡ []
  till_new = ap (λ (b : Bool). cond b [] (get_or turned (cond (nat_lt p p) p (p - 1)) [])) (eq-eqb p p refl)

  then_raised : (v : ℕ) → v < length g → sources_then turned p ws (raised p v) ≡ sources (with_node g p ws) (raised p v)
  then_raised v lt = ap (λ (us : List ℕ). before p us ++ (once_each p ws (raised p v) ++ following p us)) (till_raised v ∙ is.sources_are v lt) ∙ sym (sources_raised g p ws h v)

  then_new : sources_then turned p ws p ≡ sources (with_node g p ws) p
  then_new = ap (λ (us : List ℕ). before p us ++ (once_each p ws p ++ following p us)) till_new ∙ append-nil (once_each p ws p) ∙ sym (sources_new g p ws h)

  moved : (v : ℕ) → v < length g → is_among ws (raised p v) ≡ false → get_or (with_node turned p []) (raised p v) [] ≡ sources (with_node g p ws) (raised p v)
  moved v lt none =
      row_then turned p [] index v
      ∙ ap (map (raised p)) (is.sources_are v lt)
      ∙ sym (sources_moved g p ws h v)
      ∙ ap (λ (us : List ℕ). before p (sources g v) ++ (us ++ following p (sources g v))) (sym (once_none p ws (raised p v) none))
      ∙ sym (sources_raised g p ws h v)

  new_row : is_among ws p ≡ false → get_or (with_node turned p []) p [] ≡ sources (with_node g p ws) p
  new_row none = row_new turned p [] index ∙ sym (once_none p ws p none) ∙ sym (sources_new g p ws h)

  by_test : (q : ℕ) (b : Bool) → is_among ws q ≡ b → (sources_then turned p ws q ≡ sources (with_node g p ws) q) → (is_among ws q ≡ false → get_or (with_node turned p []) q [] ≡ sources (with_node g p ws) q)
      → cond b (sources_then turned p ws q) (get_or (with_node turned p []) q []) ≡ sources (with_node g p ws) q
  by_test q true e f k = f
  by_test q false e f k = k e

  pub within_then : (v : ℕ) → raised p v < length g + 1 → v < length g
  within_then v lt = elim (cases_lt v p) [
    | inl below ↦ omega (arith, below, h)
    | inr above ↦ let e = raised_above p v above in omega (arith, lt, e)
  ]

  pub sources_kept : (q : ℕ) → q < length (with_node g p ws) → get_or (with_rows (with_node turned p []) ws (map (sources_then turned p ws) ws)) q [] ≡ sources (with_node g p ws) q
  sources_kept q lt =
      let long = long_then g p ws h in
      let wide = long_then turned p [] index in
      let len = is.len in
      rows_at (sources_then turned p ws) (with_node turned p []) ws q (omega (arith, lt, long, wide, len)) ∙ elim (here_or p q) [
        | inl e ↦ subst (λ (x : ℕ). cond (is_among ws x) (sources_then turned p ws x) (get_or (with_node turned p []) x []) ≡ sources (with_node g p ws) x) (sym e) (by_test p (is_among ws p) refl then_new new_row)
        | inr there ↦
            let same = there.1 in
            let below : there.0 < length g = within_then there.0 (omega (arith, lt, long, same)) in
            subst (λ (x : ℕ). cond (is_among ws x) (sources_then turned p ws x) (get_or (with_node turned p []) x []) ≡ sources (with_node g p ws) x) there.1 (by_test (raised p there.0) (is_among ws (raised p there.0)) refl (then_raised there.0 below) (moved there.0 below))
      ]
