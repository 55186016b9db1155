-- Numbers that are added to the ends of rows, and taken from there.
use Rattle.std.proofs.Common.{◌≡◌, ◌∙◌, ◌<◌, ◌≤◌, ◌++◌, ◌||◌, ◌==◌, ℕ, zero, suc, Bool, true, false, cond, List, [], ◌∷◌, length, map, take, drop, replicate, get_or, refl, sym, ap, subst, arith, append_assoc}
use Rattle.std.specs.Prelude.{MatchOption, None, Option, Some, slice_set}
use Rattle.std.specs.List.{filter}
use Rattle.std.proofs.lemmas.Bool.{eqb-false, eqb-true}
use Rattle.std.proofs.lemmas.List.{append-nil}
use Rattle.occ_project_graph.specs.Graph.{Graph, is_among}
use Rattle.occ_project_graph.specs.inside.Linking.{AreLeading, IsBehindAll, IsLedFrom, IsLinked, pushed, with_rows}
use Rattle.occ_project_graph.specs.inside.Numbering.{AreSourceRows, IsFrontBefore, IsSourceRow, times_in}
use Rattle.occ_project_graph.proofs.Added.{all_rows}
use Rattle.occ_project_graph.proofs.Replaced.{rows_at, rows_long, set_apart, set_here, set_long, set_past, take_whole}

pushed_long : (g : Graph) (ws : List ℕ) (n : ℕ) → length (pushed g ws n) ≡ length g
pushed_long g [] n = refl
pushed_long g (w ∷ ws) n = set_long (pushed g ws n) w (get_or (pushed g ws n) w [] ++ n ∷ []) ∙ pushed_long g ws n

-- one more at the end of those that are all the same
once_more : (k n : ℕ) → replicate k n ++ n ∷ [] ≡ n ∷ replicate k n
once_more zero n = refl
once_more (suc k) n = ap (λ (ns : List ℕ). n ∷ ns) (once_more k n)

-- each row has the number as often as its node is one of these
pushed_at : (g : Graph) (ws : List ℕ) (n q : ℕ) → q < length g → get_or (pushed g ws n) q [] ≡ get_or g q [] ++ replicate (times_in ws q) n
pushed_at g [] n q lt = sym (append-nil (get_or g q []))
pushed_at g (w ∷ ws) n q lt = by (w == q) refl (pushed_at g ws n q lt) where
  by : (b : Bool) → (w == q) ≡ b → get_or (pushed g ws n) q [] ≡ get_or g q [] ++ replicate (times_in ws q) n
      → get_or (slice_set (pushed g ws n) w (get_or (pushed g ws n) w [] ++ n ∷ [])) q [] ≡ get_or g q [] ++ replicate (length (cond b (w ∷ filter (λ other. other == q) ws) (filter (λ other. other == q) ws))) n
  by true e rest =
      let same : w ≡ q = eqb-true w q e in
      let long = pushed_long g ws n in
      ap (λ (x : ℕ). get_or (slice_set (pushed g ws n) x (get_or (pushed g ws n) x [] ++ n ∷ [])) q []) same
      ∙ set_here (pushed g ws n) q (get_or (pushed g ws n) q [] ++ n ∷ []) (omega (arith, lt, long))
      ∙ ap (λ (ns : List ℕ). ns ++ n ∷ []) rest
      ∙ append_assoc (get_or g q []) (replicate (times_in ws q) n) (n ∷ [])
      ∙ ap (λ (ns : List ℕ). get_or g q [] ++ ns) (once_more (times_in ws q) n)
  by false e rest = set_apart (pushed g ws n) w q (get_or (pushed g ws n) w [] ++ n ∷ []) (eqb-false w q e) ∙ rest

times_none : (ws : List ℕ) (q : ℕ) → is_among ws q ≡ false → times_in ws q ≡ 0
times_none [] q e = refl
times_none (w ∷ ws) q e = by (w == q) e (times_none ws q) where
  by : (b : Bool) → (b || is_among ws q) ≡ false → (is_among ws q ≡ false → times_in ws q ≡ 0) → length (cond b (w ∷ filter (λ other. other == q) ws) (filter (λ other. other == q) ws)) ≡ 0
  by true e rest = cc
  by false e rest = rest e

-- the row that a node has then
abbrev pub row_then : Graph → List ℕ → ℕ → ℕ → List ℕ
row_then g all n w = get_or g w [] ++ replicate (times_in all w) n

pushed_is : (g : Graph) (ws : List ℕ) (n : ℕ) → pushed g ws n ≡ with_rows g ws (map (row_then g ws n) ws)
pushed_is g ws n =
    all_rows (pushed g ws n) (with_rows g ws (map (row_then g ws n) ws)) (pushed_long g ws n ∙ sym (rows_long g ws (map (row_then g ws n) ws))) (λ q lt.
    let long = pushed_long g ws n in
    let within : q < length g = omega (arith, lt, long) in
    pushed_at g ws n q within ∙ sym (rows_at (row_then g ws n) g ws q within ∙ by q (is_among ws q) refl))
  where
    by : (q : ℕ) (b : Bool) → is_among ws q ≡ b → cond b (row_then g ws n q) (get_or g q []) ≡ row_then g ws n q
    by q true e = refl
    by q false e = sym (append-nil (get_or g q [])) ∙ sym (ap (λ (k : ℕ). get_or g q [] ++ replicate k n) (times_none ws q e))

nothing_left : (ws : List ℕ) → drop (length ws) ws ≡ []
nothing_left [] = refl
nothing_left (w ∷ ws) = nothing_left ws

-- these rows are those of nodes to which edges lead from one that comes behind all
behind_rows : (indices : List ℕ) (g : Graph) (at n : ℕ) (all ws : List ℕ) → ((i : ℕ) → i < length ws → IsFrontBefore indices at (get_or g (get_or ws i 0) []) (length (get_or g (get_or ws i 0) []))) → AreSourceRows indices g at n all ws (map (row_then g all n) ws)
behind_rows indices g at n all [] h = tt
behind_rows indices g at n all (w ∷ ws) h = (first, behind_rows indices g at n all ws (λ i lt. h (suc i) (omega (arith, lt)))) where
  row : List ℕ
  row = get_or g w []

  first : IsSourceRow indices at n (times_in all w) row (row ++ replicate (times_in all w) n)
  first = record {
    front = length row;
    is_front = h 0 (omega arith);
    is = ap (λ (ns : List ℕ). ns ++ replicate (times_in all w) n) (sym (take_whole row)) ∙ ap (λ (ns : List ℕ). take (length row) row ++ ns) (sym (append-nil (replicate (times_in all w) n)) ∙ sym (ap (λ (ns : List ℕ). replicate (times_in all w) n ++ ns) (nothing_left row)));
  }

set_front : (g : Graph) (w : ℕ) (row x : List ℕ) → w < length g → slice_set (g ++ x ∷ []) w row ≡ slice_set g w row ++ x ∷ []
set_front [] w row x lt = absurd (omega (arith, lt))
set_front (y ∷ g) zero row x lt = refl
set_front (y ∷ g) (suc w) row x lt = ap (λ (h : Graph). y ∷ h) (set_front g w row x (omega (arith, lt)))

rows_front : (g : Graph) (x : List ℕ) (ws : List ℕ) (rows : List (List ℕ)) → ((i : ℕ) → i < length ws → get_or ws i 0 < length g) → with_rows (g ++ x ∷ []) ws rows ≡ with_rows g ws rows ++ x ∷ []
rows_front g x [] rows h = refl
rows_front g x (w ∷ ws) [] h = refl
rows_front g x (w ∷ ws) (row ∷ rows) h =
    let first = h 0 (omega arith) in
    let long = rows_long g ws rows in
    ap (λ (z : Graph). slice_set z w row) (rows_front g x ws rows (λ i lt. h (suc i) (omega (arith, lt)))) ∙ set_front (with_rows g ws rows) w row x (omega (arith, first, long))

pub led_pushed : (indices : List ℕ) (at n : ℕ) (ws : List ℕ) (before rows : Graph) → IsBehindAll indices before at ws → rows ≡ pushed before ws n ++ [] ∷ [] → IsLedFrom indices at n ws before rows
led_pushed indices at n ws before rows h e = record {
  found = map (row_then before ws n) ws;
  are = behind_rows indices before at n ws ws (λ i lt. (h i lt).1);
  is = e ∙ ap (λ (g : Graph). g ++ [] ∷ []) (pushed_is before ws n) ∙ sym (rows_front before [] ws (map (row_then before ws n) ws) (λ i lt. (h i lt).0));
}

-- a row that is put again
set_again : (g : Graph) (w : ℕ) (x row : List ℕ) → slice_set (slice_set g w x) w row ≡ slice_set g w row
set_again [] w x row = refl
set_again (y ∷ g) zero x row = refl
set_again (y ∷ g) (suc w) x row = ap (λ (h : Graph). y ∷ h) (set_again g w x row)

set_same : (g : Graph) (w : ℕ) → slice_set g w (get_or g w []) ≡ g
set_same [] w = refl
set_same (y ∷ g) zero = refl
set_same (y ∷ g) (suc w) = ap (λ (h : Graph). y ∷ h) (set_same g w)

-- what stands in front of the last
abbrev all_but_last : List ℕ → List ℕ
all_but_last [] = []
all_but_last (x ∷ []) = []
all_but_last (x ∷ y ∷ xs) = x ∷ all_but_last (y ∷ xs)

but_last : (xs : List ℕ) (x : ℕ) → all_but_last (xs ++ x ∷ []) ≡ xs
but_last [] x = refl
but_last (y ∷ []) x = refl
but_last (y ∷ z ∷ xs) x = ap (λ (ns : List ℕ). y ∷ ns) (but_last (z ∷ xs) x)

same_front : (xs ys : List ℕ) (x y : ℕ) → xs ++ x ∷ [] ≡ ys ++ y ∷ [] → xs ≡ ys
same_front xs ys x y e = sym (but_last xs x) ∙ ap all_but_last e ∙ but_last ys y

-- the last number is taken from where it was added
popped : (g old : Graph) (w n last : ℕ) (row : List ℕ) → old ≡ slice_set g w (get_or g w [] ++ n ∷ []) → w < length old → get_or old w [] ≡ row ++ last ∷ [] → slice_set old w row ≡ g
popped g old w n last row e lt r =
    let long : length old ≡ length g = ap (length {A = List ℕ}) e ∙ set_long g w (get_or g w [] ++ n ∷ []) in
    let here : get_or old w [] ≡ get_or g w [] ++ n ∷ [] = ap (λ (h : Graph). get_or h w []) e ∙ set_here g w (get_or g w [] ++ n ∷ []) (omega (arith, lt, long)) in
    let front : row ≡ get_or g w [] = same_front row (get_or g w []) last n (sym r ∙ here) in
    ap (slice_set old w) front ∙ ap (λ (h : Graph). slice_set h w (get_or g w [])) e ∙ set_again g w (get_or g w [] ++ n ∷ []) (get_or g w []) ∙ set_same g w

-- and where there is no such row, nothing was added
pub popped_past : (g old : Graph) (w n : ℕ) → old ≡ slice_set g w (get_or g w [] ++ n ∷ []) → length old ≤ w → old ≡ g
popped_past g old w n e le =
    let long : length old ≡ length g = ap (length {A = List ℕ}) e ∙ set_long g w (get_or g w [] ++ n ∷ []) in
    e ∙ set_past g w (get_or g w [] ++ n ∷ []) (omega (arith, le, long))

nothing_popped : (g old : Graph) (w n : ℕ) → old ≡ slice_set g w (get_or g w [] ++ n ∷ []) → w < length old → get_or old w [] ≡ [] → ⊥
nothing_popped g old w n e lt r =
    let long : length old ≡ length g = ap (length {A = List ℕ}) e ∙ set_long g w (get_or g w [] ++ n ∷ []) in
    let here : [] ≡ get_or g w [] ++ n ∷ [] = sym r ∙ ap (λ (h : Graph). get_or h w []) e ∙ set_here g w (get_or g w [] ++ n ∷ []) (omega (arith, lt, long)) in
    by (get_or g w []) here
  where
    by : (xs : List ℕ) → [] ≡ xs ++ n ∷ [] → ⊥
    by [] e = cc
    by (x ∷ xs) e = cc

or_same : (g : Graph) (w : ℕ) (x y : List ℕ) → w < length g → get_or g w x ≡ get_or g w y
or_same [] w x y lt = absurd (omega (arith, lt))
or_same (z ∷ g) zero x y lt = refl
or_same (z ∷ g) (suc w) x y lt = or_same g w x y (omega (arith, lt))

pub popped_by : (g old : Graph) (w n : ℕ) (r : Option ℕ) (row new : List ℕ) → old ≡ slice_set g w (get_or g w [] ++ n ∷ []) → w < length old → row ≡ get_or old w row → MatchOption r ((row ≡ []) × (new ≡ [])) (λ last. row ≡ new ++ last ∷ []) → slice_set old w new ≡ g
popped_by g old w n None row new e lt h m = absurd (nothing_popped g old w n e lt (or_same old w [] row lt ∙ sym h ∙ m.0))
popped_by g old w n (Some last) row new e lt h m = popped g old w n last new e lt (or_same old w [] row lt ∙ sym h ∙ m)

-- the same nodes and rows
pub leading : (indices : List ℕ) (at n : ℕ) (ws vs : List ℕ) (before rows others : Graph) (found : Option (List (List ℕ))) → ws ≡ vs → others ≡ rows → AreLeading indices at n ws before rows found → AreLeading indices at n vs before others found
leading indices at n ws vs before rows others found e r h = subst (λ (g : Graph). AreLeading indices at n vs before g found) (sym r) (subst (λ (us : List ℕ). AreLeading indices at n us before rows found) e h)

pub linked_still : (n i : List ℕ) (e k t : Graph) (n' i' : List ℕ) (e' k' t' : Graph) → IsLinked n i e k t → n' ≡ n → i' ≡ i → e' ≡ e → k' ≡ k → t' ≡ t → IsLinked n' i' e' k' t'
linked_still n i e k t n' i' e' k' t' h a b c d f =
    subst (λ (x : List ℕ). IsLinked x i' e' k' t') (sym a)
    (subst (λ (x : List ℕ). IsLinked n x e' k' t') (sym b)
    (subst (λ (x : Graph). IsLinked n i x k' t') (sym c)
    (subst (λ (x : Graph). IsLinked n i e x t') (sym d)
    (subst (λ (x : Graph). IsLinked n i e k x) (sym f) h))))
