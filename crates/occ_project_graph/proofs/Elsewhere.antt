-- All that is kept of a graph, where edges lead elsewhere from a node that stands in no circle, neither before nor then.
use Rattle.std.proofs.Common.{◌≡◌, ◌∙◌, ◌+◌, ◌<◌, ◌≤◌, ◌++◌, ◌||◌, ◌==◌, ℕ, zero, suc, Bool, true, false, cond, not, List, [], ◌∷◌, length, map, replicate, get_or, refl, sym, ap, subst, inl, inr, arith}
use Rattle.std.specs.Prelude.{nat_lt, slice_set}
use Rattle.std.specs.List.{filter}
use Rattle.std.proofs.lemmas.Bool.{cases_lt, eq-eqb, eqb-false, eqb-true, le-ltb, lt-ltb}
use Rattle.std.proofs.lemmas.List.{append_assoc, length-map, map-append}
use Rattle.std.proofs.lemmas.List.Elements.{filter-append}
use Rattle.occ_project_graph.specs.Graph.{Graph, Path, all_rests, has_edge, is_among, is_circular, reaches, rests, targets}
use Rattle.occ_project_graph.specs.Sources.{once_each, sources, sources_from}
use Rattle.occ_project_graph.specs.inside.Leading.{later_row, later_rows, nodes_before, nodes_behind}
use Rattle.occ_project_graph.specs.inside.Linking.{IsLinked, with_rows}
use Rattle.occ_project_graph.specs.inside.Numbering.{IsNumbered, IsOver, graph_by, index_at, indexed, times_in}
use Rattle.occ_project_graph.proofs.Added.{all_rows, filter_raised, from_kept, from_left, none_by, not_both, once_kept, once_left, once_none, passed, rests_long, rests_there}
use Rattle.occ_project_graph.proofs.Numbered.{AreFew, by_at, by_long, few_first, few_rest, node_past, node_there, set_by, times_indexed}
use Rattle.occ_project_graph.proofs.Replaced.{rows_at, rows_long, set_apart, set_here, set_long}
use Rattle.occ_project_graph.proofs.Searches.{among_first, among_second}
use Rattle.occ_project_graph.proofs.Ways.{edge_below, edge_reaches, first_holds, path_reaches, reaches_on, reaches_path, same_truth, second_holds}

-- graphs that agree but in where edges lead from a node
abbrev Agree : Graph → Graph → ℕ → Type 0
Agree a b p = (u v : ℕ) → (p ≡ u → ⊥) → has_edge a u v ≡ true → has_edge b u v ≡ true

-- what reaches itself by p does not, where p reaches itself by no way
off : (a : Graph) (p q u : ℕ) → reaches a p p ≡ false → reaches a u q ≡ true → reaches a q u ≡ true → p ≡ u → ⊥
off a p q u free there back e =
    not_both (reaches a p p) (reaches_on a p q p (subst (λ (x : ℕ). reaches a x q ≡ true) (sym e) there) (subst (λ (x : ℕ). reaches a q x ≡ true) (sym e) back)) free

path_too : (a b : Graph) (p q : ℕ) → Agree a b p → reaches a p p ≡ false → (xs : List ℕ) (u : ℕ) → Path a u xs q → reaches a q u ≡ true → Path b u xs q
path_too a b p q agree free [] u k back = agree u q (off a p q u free (path_reaches a [] u q k) back) k
path_too a b p q agree free (x ∷ xs) u k back = (
  agree u x (off a p q u free (path_reaches a (x ∷ xs) u q k) back) k.0,
  path_too a b p q agree free xs x k.1 (reaches_on a q u x back (edge_reaches a (length a) u x k.0)),
)

reaches_too : (a b : Graph) (p q v : ℕ) → Agree a b p → reaches a p p ≡ false → has_edge a q v ≡ true → reaches a v q ≡ true → reaches b v q ≡ true
reaches_too a b p q v agree free edge k =
    let there = reaches_path a (length a) v q k in
    path_reaches b there.0 v q (path_too a b p q agree free there.0 v there.1 (edge_reaches a (length a) q v edge))

filter_same : (f h : ℕ → Bool) (ws : List ℕ) → ((v : ℕ) → is_among ws v ≡ true → f v ≡ h v) → filter f ws ≡ filter h ws
filter_same f h [] k = refl
filter_same f h (w ∷ ws) k =
    ap (λ (b : Bool). cond b (w ∷ filter f ws) (filter f ws)) (k w (first_holds (w == w) (is_among ws w) (eq-eqb w w refl)))
    ∙ ap (λ (vs : List ℕ). cond (h w) (w ∷ vs) vs) (filter_same f h ws (λ v e. k v (second_holds (w == v) (is_among ws v) e)))

filter_all : (f : ℕ → Bool) (ws : List ℕ) → ((v : ℕ) → is_among ws v ≡ true → f v ≡ true) → filter f ws ≡ ws
filter_all f [] k = refl
filter_all f (w ∷ ws) k =
    ap (λ (b : Bool). cond b (w ∷ filter f ws) (filter f ws)) (k w (first_holds (w == w) (is_among ws w) (eq-eqb w w refl)))
    ∙ ap (λ (vs : List ℕ). w ∷ vs) (filter_all f ws (λ v e. k v (second_holds (w == v) (is_among ws v) e)))

-- what passes is no more, so if it is as much all passes
filter_less : (f : ℕ → Bool) (ws : List ℕ) → length (filter f ws) ≤ length ws
filter_less f [] = omega arith
filter_less f (w ∷ ws) = by (f w) (filter_less f ws) where
  by : (b : Bool) → length (filter f ws) ≤ length ws → length (cond b (w ∷ filter f ws) (filter f ws)) ≤ suc (length ws)
  by true le = omega (arith, le)
  by false le = omega (arith, le)

all_pass : (f : ℕ → Bool) (ws : List ℕ) → length (filter f ws) ≡ length ws → (v : ℕ) → is_among ws v ≡ true → f v ≡ true
all_pass f [] e v h = absurd cc
all_pass f (w ∷ ws) e v h = by (f w) refl e (filter_less f ws) (all_pass f ws) where
  found : (c : Bool) → (w == v) ≡ c → (c || is_among ws v) ≡ true → f w ≡ true → (is_among ws v ≡ true → f v ≡ true) → f v ≡ true
  found true same k here rest = ap f (sym (eqb-true w v same)) ∙ here
  found false other k here rest = rest k

  by : (b : Bool) → f w ≡ b → length (cond b (w ∷ filter f ws) (filter f ws)) ≡ suc (length ws) → length (filter f ws) ≤ length ws → (length (filter f ws) ≡ length ws → (x : ℕ) → is_among ws x ≡ true → f x ≡ true) → f v ≡ true
  by true here long le rest = found (w == v) refl h here (rest (omega (arith, long)) v)
  by false here long le rest = absurd (omega (arith, long, le))

-- a node that rests on all to which edges lead from it reaches itself by no way
pub rests_free : (g : Graph) (p : ℕ) → length (rests g p) ≡ length (targets g p) → reaches g p p ≡ false
rests_free g p e = none_by (reaches g p p) (λ k. by (reaches_path g (length g) p p k).0 (reaches_path g (length g) p p k).1) where
  apart : (v : ℕ) → has_edge g p v ≡ true → not (is_circular g p v) ≡ true
  apart v h = all_pass (λ x. not (is_circular g p x)) (targets g p) e v h

  by : (xs : List ℕ) → Path g p xs p → ⊥
  by [] k = let circle : is_circular g p p ≡ true = first_holds (p == p) (reaches g p p) (eq-eqb p p refl) in let h = apart p k in absurd (cc (circle, h))
  by (x ∷ xs) k = let circle : is_circular g p x ≡ true = second_holds (p == x) (reaches g x p) (path_reaches g xs x p k.1) in let h = apart x k.0 in absurd (cc (circle, h))

-- what nodes rest on
module _ (g : Graph) (p : ℕ) (ws : List ℕ) (within : p < length g) (free : reaches g p p ≡ false) where
  abbrev pub led : Graph
  led = slice_set g p ws

  agree : Agree g led p
  agree u v apart h = ap (λ (vs : List ℕ). is_among vs v) (set_apart g p u ws apart) ∙ h

  agree_back : Agree led g p
  agree_back u v apart h = ap (λ (vs : List ℕ). is_among vs v) (sym (set_apart g p u ws apart)) ∙ h

  module _ (free_then : reaches led p p ≡ false) where
    circular_same : (q v : ℕ) → (p ≡ q → ⊥) → has_edge g q v ≡ true → is_circular led q v ≡ is_circular g q v
    circular_same q v apart h = ap (λ (b : Bool). (q == v) || b) (same_truth (reaches led v q) (reaches g v q)
        (reaches_too led g p q v agree_back free_then (agree q v apart h))
        (reaches_too g led p q v agree free h))

    rests_other : (q : ℕ) → (p ≡ q → ⊥) → rests led q ≡ rests g q
    rests_other q apart =
        ap (filter (λ v. not (is_circular led q v))) (set_apart g p q ws apart)
        ∙ filter_same (λ v. not (is_circular led q v)) (λ v. not (is_circular g q v)) (targets g q) (λ v h. ap not (circular_same q v apart h))

    no_circle : (v : ℕ) → has_edge led p v ≡ true → is_circular led p v ≡ false
    no_circle v h = by (p == v) refl where
      by : (b : Bool) → (p == v) ≡ b → (b || reaches led v p) ≡ false
      by true e = absurd (not_both (reaches led p p) (edge_reaches led (length led) p p (subst (λ (x : ℕ). has_edge led p x ≡ true) (sym (eqb-true p v e)) h)) free_then)
      by false e = none_by (reaches led v p) (λ k. not_both (reaches led p p) (reaches_on led p v p (edge_reaches led (length led) p v h) k) free_then)

    rests_here : rests led p ≡ ws
    rests_here =
        filter_all (λ v. not (is_circular led p v)) (targets led p) (λ v h. ap not (no_circle v h))
        ∙ set_here g p ws within

    pub all_rests_led : slice_set (all_rests g) p ws ≡ all_rests led
    all_rests_led = all_rows (slice_set (all_rests g) p ws) (all_rests led) same (λ q lt. at q (p == q) refl) where
      long : length (all_rests g) ≡ length g
      long = rests_long g 0 (length g)

      same : length (slice_set (all_rests g) p ws) ≡ length (all_rests led)
      same = set_long (all_rests g) p ws ∙ long ∙ sym (set_long g p ws) ∙ sym (rests_long led 0 (length led))

      at : (q : ℕ) (b : Bool) → (p == q) ≡ b → get_or (slice_set (all_rests g) p ws) q [] ≡ get_or (all_rests led) q []
      at q true e = subst (λ (x : ℕ). get_or (slice_set (all_rests g) p ws) x [] ≡ get_or (all_rests led) x []) (eqb-true p q e)
          (set_here (all_rests g) p ws (omega (arith, within, long)) ∙ sym rests_here ∙ sym (rests_there led p))
      at q false e = set_apart (all_rests g) p q ws (eqb-false p q e) ∙ rests_there g q ∙ sym (rests_other q (eqb-false p q e)) ∙ sym (rests_there led q)

-- from where edges lead
sources_off : (k : ℕ) (g : Graph) (p : ℕ) (ws : List ℕ) (v : ℕ) → is_among (targets g p) v ≡ false → is_among ws v ≡ false → sources_from k (slice_set g p ws) v ≡ sources_from k g v
sources_off k [] p ws v h n = refl
sources_off k (r ∷ g) zero ws v h n = ap (λ (us : List ℕ). us ++ sources_from (k + 1) g v) (once_none k ws v n ∙ sym (once_none k r v h))
sources_off k (r ∷ g) (suc p) ws v h n = ap (λ (us : List ℕ). once_each k r v ++ us) (sources_off (k + 1) g p ws v h n)

sources_led : (k : ℕ) (g : Graph) (p : ℕ) (ws : List ℕ) (v : ℕ) → p < length g
    → sources_from k (slice_set g p ws) v ≡ filter (λ u. nat_lt u (k + p)) (sources_from k g v) ++ (once_each (k + p) ws v ++ filter (λ u. nat_lt (k + p) u) (sources_from k g v))
sources_led k [] p ws v lt = absurd (omega (arith, lt))
sources_led k (r ∷ g) zero ws v lt = ap (λ (n : ℕ). once_each n ws v ++ more) here ∙ sym (
    ap (λ (us : List ℕ). us ++ (once_each (k + 0) ws v ++ filter (λ u. nat_lt (k + 0) u) all)) none
    ∙ ap (λ (us : List ℕ). once_each (k + 0) ws v ++ us) kept)
  where
    more : List ℕ
    more = sources_from (k + 1) g v

    all : List ℕ
    all = once_each k r v ++ more

    here : k ≡ k + 0
    here = omega arith

    none : filter (λ u. nat_lt u (k + 0)) all ≡ []
    none =
        filter-append (λ u. nat_lt u (k + 0)) (once_each k r v) more
        ∙ ap (λ (us : List ℕ). us ++ filter (λ u. nat_lt u (k + 0)) more) (once_left (λ u. nat_lt u (k + 0)) k (filter (λ w. w == v) r) (le-ltb k (k + 0) (omega arith)))
        ∙ from_left (λ u. nat_lt u (k + 0)) (k + 1) g v (λ u a b. le-ltb u (k + 0) (omega (arith, a)))

    kept : filter (λ u. nat_lt (k + 0) u) all ≡ more
    kept =
        filter-append (λ u. nat_lt (k + 0) u) (once_each k r v) more
        ∙ ap (λ (us : List ℕ). us ++ filter (λ u. nat_lt (k + 0) u) more) (once_left (λ u. nat_lt (k + 0) u) k (filter (λ w. w == v) r) (le-ltb (k + 0) k (omega arith)))
        ∙ from_kept (λ u. nat_lt (k + 0) u) (k + 1) g v (λ u a b. lt-ltb (k + 0) u (omega (arith, a)))
sources_led k (r ∷ g) (suc p) ws v lt =
    ap (λ (us : List ℕ). once_each k r v ++ us) (sources_led (k + 1) g p ws v (omega (arith, lt)))
    ∙ ap (λ (n : ℕ). once_each k r v ++ (filter (λ u. nat_lt u n) more ++ (once_each n ws v ++ filter (λ u. nat_lt n u) more))) here
    ∙ sym (append_assoc (once_each k r v) (filter (λ u. nat_lt u (k + suc p)) more) (once_each (k + suc p) ws v ++ filter (λ u. nat_lt (k + suc p) u) more))
    ∙ sym (
    ap (λ (us : List ℕ). us ++ (once_each (k + suc p) ws v ++ filter (λ u. nat_lt (k + suc p) u) all)) first
    ∙ ap (λ (us : List ℕ). (once_each k r v ++ filter (λ u. nat_lt u (k + suc p)) more) ++ (once_each (k + suc p) ws v ++ us)) behind)
  where
    more : List ℕ
    more = sources_from (k + 1) g v

    all : List ℕ
    all = once_each k r v ++ more

    here : k + 1 + p ≡ k + suc p
    here = omega arith

    first : filter (λ u. nat_lt u (k + suc p)) all ≡ once_each k r v ++ filter (λ u. nat_lt u (k + suc p)) more
    first =
        filter-append (λ u. nat_lt u (k + suc p)) (once_each k r v) more
        ∙ ap (λ (us : List ℕ). us ++ filter (λ u. nat_lt u (k + suc p)) more) (once_kept (λ u. nat_lt u (k + suc p)) k (filter (λ w. w == v) r) (lt-ltb k (k + suc p) (omega arith)))

    behind : filter (λ u. nat_lt (k + suc p) u) all ≡ filter (λ u. nat_lt (k + suc p) u) more
    behind =
        filter-append (λ u. nat_lt (k + suc p) u) (once_each k r v) more
        ∙ ap (λ (us : List ℕ). us ++ filter (λ u. nat_lt (k + suc p) u) more) (once_left (λ u. nat_lt (k + suc p) u) k (filter (λ w. w == v) r) (le-ltb (k + suc p) k (omega arith)))

often : (f : ℕ → ℕ) (n p times : ℕ) → f n ≡ p → map f (replicate times n) ≡ replicate times p
often f n p zero e = refl
often f n p (suc times) e = ap (λ (q : ℕ). q ∷ map f (replicate times n)) e ∙ ap (λ (ps : List ℕ). p ∷ ps) (often f n p times e)

once_often : (p : ℕ) (ws : List ℕ) → replicate (length ws) p ≡ map (λ (w : ℕ). p) ws
once_often p [] = refl
once_often p (w ∷ ws) = ap (λ (ps : List ℕ). p ∷ ps) (once_often p ws)

-- numbers of nodes
numbers_back : (numbers indices : List ℕ) → IsNumbered numbers indices → (ws : List ℕ) → AreFew (length numbers) ws → indexed indices (map (λ p. get_or numbers p 0) ws) ≡ ws
numbers_back numbers indices is [] few = refl
numbers_back numbers indices is (w ∷ ws) few =
    ap (λ (p : ℕ). p ∷ indexed indices (map (λ p. get_or numbers p 0) ws)) (is.there w (few_first (length numbers) w ws few))
    ∙ ap (λ (ps : List ℕ). w ∷ ps) (numbers_back numbers indices is ws (few_rest (length numbers) w ws few))

numbers_few : (numbers indices : List ℕ) → IsNumbered numbers indices → (ws : List ℕ) → AreFew (length numbers) ws → AreFew (length numbers) (map (λ p. get_or numbers p 0) ws)
numbers_few numbers indices is [] few n k = absurd cc
numbers_few numbers indices is (w ∷ ws) few n k = by (get_or numbers w 0 == n) refl k (numbers_few numbers indices is ws (few_rest (length numbers) w ws few) n) where
  by : (b : Bool) → (get_or numbers w 0 == n) ≡ b → (b || is_among (map (λ p. get_or numbers p 0) ws) n) ≡ true → (is_among (map (λ p. get_or numbers p 0) ws) n ≡ true → n < length numbers) → n < length numbers
  by true e j rest = subst (λ (m : ℕ). m < length numbers) (eqb-true (get_or numbers w 0) n e) (is.number_within w (few_first (length numbers) w ws few))
  by false e j rest = rest j

-- rows by numbers and rows by indices
module _ (numbers indices : List ℕ) (numbered : IsNumbered numbers indices) (rows : Graph) (over : IsOver (length numbers) rows) where
  abbrev g_of : Graph
  g_of = graph_by numbers indices rows

  edge_number : (u x : ℕ) → has_edge g_of u x ≡ true → has_edge rows (get_or numbers u 0) (get_or numbers x 0) ≡ true
  edge_number u x h =
      let few : AreFew (length numbers) (get_or rows (get_or numbers u 0) []) = λ m k. over.within (get_or numbers u 0) m k in
      let wide = by_long numbers indices rows in
      let first : u < length numbers = (let lt = edge_below g_of u x h in omega (arith, lt, wide)) in
      let there : is_among (indexed indices (get_or rows (get_or numbers u 0) [])) x ≡ true = ap (λ (ws : List ℕ). is_among ws x) (sym (by_at numbers indices rows u first)) ∙ h in
      elim (cases_lt x (length numbers)) [
        | inl below ↦ node_there numbers indices (get_or rows (get_or numbers u 0) []) x numbered few below ∙ there
        | inr above ↦ let none = node_past numbers indices (get_or rows (get_or numbers u 0) []) x numbered few above in absurd (cc (none, there))
      ]

  path_number : (xs : List ℕ) (u v : ℕ) → Path g_of u xs v → Path rows (get_or numbers u 0) (map (λ p. get_or numbers p 0) xs) (get_or numbers v 0)
  path_number [] u v k = edge_number u v k
  path_number (x ∷ xs) u v k = (edge_number u x k.0, path_number xs x v k.1)

  pub free_index : (p : ℕ) → reaches rows (get_or numbers p 0) (get_or numbers p 0) ≡ false → reaches g_of p p ≡ false
  free_index p free = none_by (reaches g_of p p) (λ k.
      let there = reaches_path g_of (length g_of) p p k in
      not_both (reaches rows (get_or numbers p 0) (get_or numbers p 0)) (path_reaches rows (map (λ q. get_or numbers q 0) there.0) (get_or numbers p 0) (get_or numbers p 0) (path_number there.0 p p there.1)) free)

-- a row in which none are but these
few_append : (count : ℕ) (xs ys : List ℕ) → AreFew count xs → AreFew count ys → AreFew count (xs ++ ys)
few_append count [] ys a b n h = b n h
few_append count (x ∷ xs) ys a b n h = by (x == n) refl h (few_append count xs ys (few_rest count x xs a) b n) where
  by : (c : Bool) → (x == n) ≡ c → (c || is_among (xs ++ ys) n) ≡ true → (is_among (xs ++ ys) n ≡ true → n < count) → n < count
  by true e k rest = a n (first_holds (x == n) (is_among xs n) e)
  by false e k rest = rest k

few_often : (count number times : ℕ) → number < count → AreFew count (replicate times number)
few_often count number zero lt n h = absurd cc
few_often count number (suc times) lt n h = by (number == n) refl h (few_often count number times lt n) where
  by : (c : Bool) → (number == n) ≡ c → (c || is_among (replicate times number) n) ≡ true → (is_among (replicate times number) n ≡ true → n < count) → n < count
  by true e k rest = subst (λ (m : ℕ). m < count) (eqb-true number n e) lt
  by false e k rest = rest k

few_later : (count : ℕ) (indices : List ℕ) (at number times : ℕ) (before : List ℕ) → number < count → AreFew count before → AreFew count (later_row indices at number times before)
few_later count indices at number times before lt few =
    few_append count (nodes_before indices at before) (replicate times number ++ nodes_behind indices at before) (λ n h. few n (passed (λ m. nat_lt (index_at indices m) at) before n h))
    (few_append count (replicate times number) (nodes_behind indices at before) (few_often count number times lt) (λ n h. few n (passed (λ m. nat_lt at (index_at indices m)) before n h)))

-- what was there comes back
set_row : (g : Graph) (n : ℕ) → slice_set g n (get_or g n []) ≡ g
set_row [] n = refl
set_row (x ∷ g) zero = refl
set_row (x ∷ g) (suc n) = ap (λ (h : Graph). x ∷ h) (set_row g n)

set_again : (g : Graph) (n : ℕ) (x y : List ℕ) → slice_set (slice_set g n x) n y ≡ slice_set g n y
set_again [] n x y = refl
set_again (z ∷ g) zero x y = refl
set_again (z ∷ g) (suc n) x y = ap (λ (h : Graph). z ∷ h) (set_again g n x y)

pub set_back : (g : Graph) (n : ℕ) (x : List ℕ) → slice_set (slice_set g n x) n (get_or g n []) ≡ g
set_back g n x = set_again g n x (get_or g n []) ∙ set_row g n

-- edges lead elsewhere from the node at an index
module _ (numbers indices : List ℕ) (edges kept turned : Graph) (is : IsLinked numbers indices edges kept turned) (p : ℕ) (within : p < length numbers) (ws : List ℕ) (few : AreFew (length numbers) ws)
    (n : ℕ) (n_is : n ≡ get_or numbers p 0) (led : List ℕ) (led_is : led ≡ map (λ q. get_or numbers q 0) ws) (nodes : List ℕ) (nodes_are : nodes ≡ get_or edges n [] ++ led) where
  abbrev g : Graph
  g = graph_by numbers indices edges

  g_long : length g ≡ length numbers
  g_long = by_long numbers indices edges

  n_few : n < length numbers
  n_few = subst (λ (m : ℕ). m < length numbers) (sym n_is) (is.numbered.number_within p within)

  n_at : index_at indices n ≡ p
  n_at = ap (index_at indices) n_is ∙ is.numbered.there p within

  led_few : AreFew (length numbers) led
  led_few = subst (AreFew (length numbers)) (sym led_is) (numbers_few numbers indices is.numbered ws few)

  led_at : indexed indices led ≡ ws
  led_at = ap (indexed indices) led_is ∙ numbers_back numbers indices is.numbered ws few

  -- the edges
  pub led_view : graph_by numbers indices (slice_set edges n led) ≡ slice_set g p ws
  led_view =
      set_by numbers indices is.numbered edges n led is.edges_over.len n_few
      ∙ ap (λ (q : ℕ). slice_set g q (indexed indices led)) n_at
      ∙ ap (slice_set g p) led_at

  set_over : (rows : Graph) → IsOver (length numbers) rows → IsOver (length numbers) (slice_set rows n led)
  set_over rows over = record {
    len = set_long rows n led ∙ over.len;
    within = λ u v e. by u v (n == u) refl e;
  } where
    by : (u v : ℕ) (b : Bool) → (n == u) ≡ b → has_edge (slice_set rows n led) u v ≡ true → v < length numbers
    by u v true same e =
        let len = over.len in
        let here : n ≡ u = eqb-true n u same in
        led_few v (ap (λ (us : List ℕ). is_among us v) (sym (set_here rows n led (omega (arith, n_few, len)))) ∙ ap (λ (m : ℕ). has_edge (slice_set rows n led) m v) here ∙ e)
    by u v false other e = over.within u v (ap (λ (us : List ℕ). is_among us v) (sym (set_apart rows n u led (eqb-false n u other))) ∙ e)

  -- what nodes rest on
  free_before : length (get_or kept n []) ≡ length (get_or edges n []) → reaches g p p ≡ false
  free_before e = rests_free g p (
      ap (length {A = ℕ}) (sym (rests_there g p) ∙ ap (λ (x : Graph). get_or x p []) (sym is.rests_are) ∙ by_at numbers indices kept p within)
      ∙ length-map (get_or kept (get_or numbers p 0) []) (index_at indices)
      ∙ ap (λ (m : ℕ). length (get_or kept m [])) (sym n_is) ∙ e ∙ ap (λ (m : ℕ). length (get_or edges m [])) n_is
      ∙ sym (ap (length {A = ℕ}) (by_at numbers indices edges p within) ∙ length-map (get_or edges (get_or numbers p 0) []) (index_at indices)))

  module _ (same : length (get_or kept n []) ≡ length (get_or edges n [])) (none : reaches (slice_set edges n led) n n ≡ false) where
    free_then : reaches (slice_set g p ws) p p ≡ false
    free_then = subst (λ (x : Graph). reaches x p p ≡ false) led_view
        (free_index numbers indices is.numbered (slice_set edges n led) (set_over edges is.edges_over) p
        (subst (λ (m : ℕ). reaches (slice_set edges n led) m m ≡ false) n_is none))

    rests_then : graph_by numbers indices (slice_set kept n led) ≡ all_rests (graph_by numbers indices (slice_set edges n led))
    rests_then =
        set_by numbers indices is.numbered kept n led is.rests_over.len n_few
        ∙ ap (λ (q : ℕ). slice_set (graph_by numbers indices kept) q (indexed indices led)) n_at
        ∙ ap (slice_set (graph_by numbers indices kept) p) led_at
        ∙ ap (λ (x : Graph). slice_set x p ws) is.rests_are
        ∙ all_rests_led g p ws (omega (arith, within, g_long)) (free_before same) free_then
        ∙ ap all_rests (sym led_view)

    -- from where edges lead
    row_is : (m : ℕ) → m < length numbers → indexed indices (later_row indices p n (times_in led m) (get_or turned m [])) ≡ sources (slice_set g p ws) (index_at indices m)
    row_is m lt =
        let v : ℕ = index_at indices m in
        let before : List ℕ = get_or turned m [] in
        let at : v < length numbers = is.numbered.index_within m lt in
        let s_is : indexed indices before ≡ sources g v =
        ap (λ (k : ℕ). indexed indices (get_or turned k [])) (sym (is.numbered.back m lt)) ∙ sym (by_at numbers indices turned v at) ∙ is.turned_are v at in
        let first : indexed indices (nodes_before indices p before) ≡ filter (λ u. nat_lt u p) (sources g v) =
        sym (filter_raised (index_at indices) (λ u. nat_lt u p) (λ k. nat_lt (index_at indices k) p) (λ k. refl) before) ∙ ap (filter (λ u. nat_lt u p)) s_is in
        let behind : indexed indices (nodes_behind indices p before) ≡ filter (λ u. nat_lt p u) (sources g v) =
        sym (filter_raised (index_at indices) (λ u. nat_lt p u) (λ k. nat_lt p (index_at indices k)) (λ k. refl) before) ∙ ap (filter (λ u. nat_lt p u)) s_is in
        let once : indexed indices (replicate (times_in led m) n) ≡ once_each p ws v =
        often (index_at indices) n p (times_in led m) n_at
        ∙ ap (λ (k : ℕ). replicate k p) (sym (times_indexed numbers indices is.numbered led m led_few lt) ∙ ap (λ (us : List ℕ). times_in us v) led_at)
        ∙ once_often p (filter (λ w. w == v) ws) in
        let zero_is : 0 + p ≡ p = omega arith in
        map-append (index_at indices) (nodes_before indices p before) (replicate (times_in led m) n ++ nodes_behind indices p before)
        ∙ ap (λ (us : List ℕ). us ++ indexed indices (replicate (times_in led m) n ++ nodes_behind indices p before)) first
        ∙ ap (λ (us : List ℕ). filter (λ u. nat_lt u p) (sources g v) ++ us)
        (map-append (index_at indices) (replicate (times_in led m) n) (nodes_behind indices p before)
        ∙ ap (λ (us : List ℕ). us ++ indexed indices (nodes_behind indices p before)) once
        ∙ ap (λ (us : List ℕ). once_each p ws v ++ us) behind)
        ∙ sym (sources_led 0 g p ws v (omega (arith, within, g_long))
        ∙ ap (λ (k : ℕ). filter (λ u. nat_lt u k) (sources g v) ++ (once_each k ws v ++ filter (λ u. nat_lt k u) (sources g v))) zero_is)

    row_off : (m : ℕ) → m < length numbers → is_among nodes m ≡ false → indexed indices (get_or turned m []) ≡ sources (slice_set g p ws) (index_at indices m)
    row_off m lt off =
        let v : ℕ = index_at indices m in
        let at : v < length numbers = is.numbered.index_within m lt in
        let was : is_among (get_or edges n []) m ≡ false = none_by (is_among (get_or edges n []) m) (λ h. not_both (is_among nodes m) (ap (λ (us : List ℕ). is_among us m) nodes_are ∙ among_first (get_or edges n []) led m h) off) in
        let now : is_among led m ≡ false = none_by (is_among led m) (λ h. not_both (is_among nodes m) (ap (λ (us : List ℕ). is_among us m) nodes_are ∙ among_second (get_or edges n []) led m h) off) in
        let row_few : AreFew (length numbers) (get_or edges n []) = λ k h. is.edges_over.within n k h in
        let no_target : is_among (targets g p) v ≡ false =
        ap (λ (us : List ℕ). is_among us v) (by_at numbers indices edges p within)
        ∙ ap (λ (k : ℕ). is_among (indexed indices (get_or edges k [])) v) (sym n_is)
        ∙ sym (node_there numbers indices (get_or edges n []) v is.numbered row_few at)
        ∙ ap (is_among (get_or edges n [])) (is.numbered.back m lt) ∙ was in
        let not_led : is_among ws v ≡ false =
        ap (λ (us : List ℕ). is_among us v) (sym led_at)
        ∙ sym (node_there numbers indices led v is.numbered led_few at)
        ∙ ap (is_among led) (is.numbered.back m lt) ∙ now in
        ap (λ (k : ℕ). indexed indices (get_or turned k [])) (sym (is.numbered.back m lt)) ∙ sym (by_at numbers indices turned v at) ∙ is.turned_are v at
        ∙ sym (sources_off 0 g p ws v no_target not_led)

    abbrev later : Graph
    later = with_rows turned nodes (later_rows indices turned p n led nodes)

    turned_then : (q : ℕ) → q < length numbers → get_or (graph_by numbers indices later) q [] ≡ sources (graph_by numbers indices (slice_set edges n led)) q
    turned_then q lt =
        let m : ℕ = get_or numbers q 0 in
        let m_few : m < length numbers = is.numbered.number_within q lt in
        let len = is.turned_over.len in
        by_at numbers indices later q lt
        ∙ ap (indexed indices) (rows_at (λ k. later_row indices p n (times_in led k) (get_or turned k [])) turned nodes m (omega (arith, m_few, len)))
        ∙ by m m_few (is_among nodes m) refl
        ∙ ap (sources (slice_set g p ws)) (is.numbered.there q lt)
        ∙ ap (λ (x : Graph). sources x q) (sym led_view)
      where
        by : (m : ℕ) → m < length numbers → (b : Bool) → is_among nodes m ≡ b → indexed indices (cond b (later_row indices p n (times_in led m) (get_or turned m [])) (get_or turned m [])) ≡ sources (slice_set g p ws) (index_at indices m)
        by m few true e = row_is m few
        by m few false e = row_off m few e

    later_over : IsOver (length numbers) later
    later_over = record {
      len = rows_long turned nodes (later_rows indices turned p n led nodes) ∙ is.turned_over.len;
      within = λ u v e.
          let lt = edge_below later u v e in
          let long = rows_long turned nodes (later_rows indices turned p n led nodes) in
          by u v (is_among nodes u) (ap (λ (us : List ℕ). is_among us v) (sym (rows_at (λ k. later_row indices p n (times_in led k) (get_or turned k [])) turned nodes u (omega (arith, lt, long)))) ∙ e);
    } where
      by : (u v : ℕ) (b : Bool) → is_among (cond b (later_row indices p n (times_in led u) (get_or turned u [])) (get_or turned u [])) v ≡ true → v < length numbers
      by u v true e = few_later (length numbers) indices p n (times_in led u) (get_or turned u []) n_few (λ k h. is.turned_over.within u k h) v e
      by u v false e = is.turned_over.within u v e

    pub led_linked : IsLinked numbers indices (slice_set edges n led) (slice_set kept n led) (with_rows turned nodes (later_rows indices turned p n led nodes))
    led_linked = record {
      numbered = is.numbered;
      edges_over = set_over edges is.edges_over;
      rests_over = set_over kept is.rests_over;
      turned_over = later_over;
      rests_are = rests_then;
      turned_are = turned_then;
    }
