-- A graph with one node more, which comes to an index among the others.
use Rattle.std.proofs.Common.{◌≡◌, ◌∙◌, ◌+◌, ◌<◌, ◌≤◌, ◌++◌, ◌||◌, ◌⊎◌, ◌==◌, ℕ, zero, suc, Bool, true, false, cond, not, List, [], ◌∷◌, length, map, take, drop, get_or, refl, sym, ap, subst, inl, inr, arith}
use Rattle.std.specs.Prelude.{nat_lt}
use Rattle.std.specs.List.{filter}
use Rattle.std.proofs.lemmas.Bool.{cases_lt, eq-eqb, eqb-false, eqb-true, le-ltb, lt-ltb}
use Rattle.std.proofs.lemmas.List.{append-nil, append_assoc, drop-map, length-map, length-take-le, map-append, take-append-drop, take-map}
use Rattle.std.proofs.lemmas.List.Edits.{get_or-insert_above, get_or-insert_at, get_or-insert_below, length-insert}
use Rattle.std.proofs.lemmas.List.Elements.{filter-append}
use Rattle.occ_project_graph.specs.Adding.{raised, with_node}
use Rattle.occ_project_graph.specs.Graph.{Graph, Path, Reaches, all_rests, has_edge, is_among, is_circular, reaches, rests, rests_from, targets}
use Rattle.occ_project_graph.specs.Sources.{once_each, sources, sources_from}
use Rattle.occ_project_graph.specs.inside.Linking.{before, following, others}
use Rattle.occ_project_graph.proofs.Ways.{first_holds, path_reaches, reaches_path, same_truth, second_holds}

pub none_by : (b : Bool) → (b ≡ true → ⊥) → b ≡ false
none_by true f = absurd (f refl)
none_by false f = refl

pub not_both : (b : Bool) → b ≡ true → b ≡ false → ⊥
not_both true h k = cc
not_both false h k = cc

-- indices
module _ (p : ℕ) where
  pub raised_below : (v : ℕ) → v < p → raised p v ≡ v
  raised_below v lt = ap (λ (b : Bool). cond b v (v + 1)) (lt-ltb v p lt)

  pub raised_above : (v : ℕ) → p ≤ v → raised p v ≡ v + 1
  raised_above v le = ap (λ (b : Bool). cond b v (v + 1)) (le-ltb v p le)

  pub raised_apart : (v : ℕ) → raised p v ≡ p → ⊥
  raised_apart v e = elim (cases_lt v p) [
    | inl below ↦ let same = raised_below v below in omega (arith, below, same, e)
    | inr above ↦ let same = raised_above v above in omega (arith, above, same, e)
  ]

  pub raised_same : (u v : ℕ) → raised p u ≡ raised p v → u ≡ v
  raised_same u v e = elim (cases_lt u p) [
    | inl low ↦ elim (cases_lt v p) [
      | inl below ↦ sym (raised_below u low) ∙ e ∙ raised_below v below
      | inr above ↦ let a = raised_below u low in let b = raised_above v above in absurd (omega (arith, low, above, a, b, e))
    ]
    | inr high ↦ elim (cases_lt v p) [
      | inl below ↦ let a = raised_above u high in let b = raised_below v below in absurd (omega (arith, high, below, a, b, e))
      | inr above ↦ let a = raised_above u high in let b = raised_above v above in omega (arith, a, b, e)
    ]
  ]

  lower : (v : ℕ) → p < v → (u : ℕ) × ((p ≤ u) × (u + 1 ≡ v))
  lower zero lt = absurd (omega (arith, lt))
  lower (suc v) lt = (v, (omega (arith, lt), omega arith))

  -- each index but the new one is that of a node that was there
  pub lowered : (v : ℕ) → (v ≡ p → ⊥) → (u : ℕ) × (raised p u ≡ v)
  lowered v other = elim (cases_lt v p) [
    | inl below ↦ (v, raised_below v below)
    | inr above ↦ elim (cases_lt p v) [
      | inl high ↦ let there = lower v high in (there.0, raised_above there.0 there.1.0 ∙ there.1.1)
      | inr low ↦ absurd (other (omega (arith, above, low)))
    ]
  ]

  -- where one is, or not
  pub here_or : (v : ℕ) → (v ≡ p) ⊎ ((u : ℕ) × (raised p u ≡ v))
  here_or v = by (v == p) refl where
    by : (b : Bool) → (v == p) ≡ b → (v ≡ p) ⊎ ((u : ℕ) × (raised p u ≡ v))
    by true e = inl (eqb-true v p e)
    by false e = inr (lowered v (eqb-false v p e))

  pub apart_test : (v : ℕ) → (raised p v == p) ≡ false
  apart_test v = none_by (raised p v == p) (λ e. raised_apart v (eqb-true (raised p v) p e))

  turned_test : (v : ℕ) → (p == raised p v) ≡ false
  turned_test v = none_by (p == raised p v) (λ e. raised_apart v (sym (eqb-true p (raised p v) e)))

  pub same_test : (u v : ℕ) → (raised p u == raised p v) ≡ (u == v)
  same_test u v = same_truth (raised p u == raised p v) (u == v)
      (λ e. eq-eqb u v (raised_same u v (eqb-true (raised p u) (raised p v) e)))
      (λ e. eq-eqb (raised p u) (raised p v) (ap (raised p) (eqb-true u v e)))

  pub among_raised : (ws : List ℕ) (v : ℕ) → is_among (map (raised p) ws) (raised p v) ≡ is_among ws v
  among_raised [] v = refl
  among_raised (w ∷ ws) v = ap (λ (b : Bool). b || is_among (map (raised p) ws) (raised p v)) (same_test w v) ∙ ap (λ (b : Bool). (w == v) || b) (among_raised ws v)

  pub not_among : (ws : List ℕ) → is_among (map (raised p) ws) p ≡ false
  not_among [] = refl
  not_among (w ∷ ws) = ap (λ (b : Bool). b || is_among (map (raised p) ws) p) (apart_test w) ∙ not_among ws

pub get_map : (f : List ℕ → List ℕ) (g : Graph) (u : ℕ) → f [] ≡ [] → get_or (map f g) u [] ≡ f (get_or g u [])
get_map f [] u e = sym e
get_map f (ws ∷ g) zero e = refl
get_map f (ws ∷ g) (suc u) e = get_map f g u e

pub all_rows : (g h : Graph) → length g ≡ length h → ((p : ℕ) → p < length g → get_or g p [] ≡ get_or h p []) → g ≡ h
all_rows [] [] l k = refl
all_rows [] (y ∷ h) l k = cc
all_rows (x ∷ g) [] l k = cc
all_rows (x ∷ g) (y ∷ h) l k =
    let less : length g ≡ length h = omega (arith, l) in
    ap (λ (z : List ℕ). z ∷ g) (k 0 (omega arith)) ∙ ap (λ (zs : Graph). y ∷ zs) (all_rows g h less (λ p lt. k (suc p) (omega (arith, lt))))

-- what a node rests on, by its place
rests_below : (g : Graph) (u n p : ℕ) → p < n → get_or (rests_from g u n) p [] ≡ rests g (u + p)
rests_below g u zero p lt = absurd (omega (arith, lt))
rests_below g u (suc n) zero lt = let e : u ≡ u + 0 = omega arith in ap (rests g) e
rests_below g u (suc n) (suc p) lt = let e : u + 1 + p ≡ u + suc p = omega arith in rests_below g (u + 1) n p (omega (arith, lt)) ∙ ap (rests g) e

rests_above : (g : Graph) (u n p : ℕ) → n ≤ p → get_or (rests_from g u n) p [] ≡ []
rests_above g u zero p le = refl
rests_above g u (suc n) zero le = absurd (omega (arith, le))
rests_above g u (suc n) (suc p) le = rests_above g (u + 1) n p (omega (arith, le))

beyond : (g : Graph) (p : ℕ) → length g ≤ p → get_or g p [] ≡ []
beyond [] p h = refl
beyond (ws ∷ g) zero h = absurd (omega (arith, h))
beyond (ws ∷ g) (suc p) h = beyond g p (omega (arith, h))

pub rests_there : (g : Graph) (p : ℕ) → get_or (all_rests g) p [] ≡ rests g p
rests_there g p = elim (cases_lt p (length g)) [
  | inl below ↦ let e : 0 + p ≡ p = omega arith in rests_below g 0 (length g) p below ∙ ap (rests g) e
  | inr above ↦ rests_above g 0 (length g) p above ∙ sym (ap (filter (λ v. not (is_circular g p v))) (beyond g p above))
]

pub rests_long : (g : Graph) (u n : ℕ) → length (rests_from g u n) ≡ n
rests_long g u zero = refl
rests_long g u (suc n) = ap suc (rests_long g (u + 1) n)

-- what passes a test is among all
pub passed : (test : ℕ → Bool) (ws : List ℕ) (q : ℕ) → is_among (filter test ws) q ≡ true → is_among ws q ≡ true
passed test [] q h = h
passed test (w ∷ ws) q h = by (test w) h (λ k. passed test ws q k) where
  first : (b : Bool) → (b || is_among (filter test ws) q) ≡ true → (is_among (filter test ws) q ≡ true → is_among ws q ≡ true) → (b || is_among ws q) ≡ true
  first true k rest = refl
  first false k rest = rest k

  by : (b : Bool) → is_among (cond b (w ∷ filter test ws) (filter test ws)) q ≡ true → (is_among (filter test ws) q ≡ true → is_among ws q ≡ true) → is_among (w ∷ ws) q ≡ true
  by true k rest = first (w == q) k rest
  by false k rest = second_holds (w == q) (is_among ws q) (rest k)

-- tests that agree leave the same
same_filter : (f h : ℕ → Bool) → ((v : ℕ) → f v ≡ h v) → (ws : List ℕ) → filter f ws ≡ filter h ws
same_filter f h e [] = refl
same_filter f h e (w ∷ ws) = ap (λ (b : Bool). cond b (w ∷ filter f ws) (filter f ws)) (e w) ∙ ap (λ (vs : List ℕ). cond (h w) (w ∷ vs) vs) (same_filter f h e ws)

pub filter_raised : (r : ℕ → ℕ) (f h : ℕ → Bool) → ((v : ℕ) → f (r v) ≡ h v) → (ws : List ℕ) → filter f (map r ws) ≡ map r (filter h ws)
filter_raised r f h e [] = refl
filter_raised r f h e (w ∷ ws) = ap (λ (b : Bool). cond b (r w ∷ filter f (map r ws)) (filter f (map r ws))) (e w) ∙ ap (λ (vs : List ℕ). cond (h w) (r w ∷ vs) vs) (filter_raised r f h e ws) ∙ by (h w) where
  by : (b : Bool) → cond b (r w ∷ map r (filter h ws)) (map r (filter h ws)) ≡ map r (cond b (w ∷ filter h ws) (filter h ws))
  by true = refl
  by false = refl

module _ (g : Graph) (p : ℕ) (ws : List ℕ) (h : p ≤ length g) where
  pub long_then : length (with_node g p ws) ≡ length g + 1
  long_then = let long = length-map g (map (raised p)) in length-insert (map (map (raised p)) g) p ws (omega (arith, h, long)) ∙ ap (λ (n : ℕ). n + 1) long

  -- the rows
  pub row_then : (u : ℕ) → get_or (with_node g p ws) (raised p u) [] ≡ map (raised p) (get_or g u [])
  row_then u = elim (cases_lt u p) [
    | inl below ↦ ap (λ (v : ℕ). get_or (with_node g p ws) v []) (raised_below p u below) ∙ get_or-insert_below (map (map (raised p)) g) p ws [] u below index ∙ get_map (map (raised p)) g u refl
    | inr above ↦ ap (λ (v : ℕ). get_or (with_node g p ws) v []) (raised_above p u above) ∙ get_or-insert_above (map (map (raised p)) g) p ws [] u above index ∙ get_map (map (raised p)) g u refl
  ] where
    index : p ≤ length (map (map (raised p)) g)
    index = let long = length-map g (map (raised p)) in omega (arith, h, long)

  pub row_new : get_or (with_node g p ws) p [] ≡ ws
  row_new = let long = length-map g (map (raised p)) in get_or-insert_at (map (map (raised p)) g) p ws [] (omega (arith, h, long))

  -- the edges
  edge_then : (u v : ℕ) → has_edge (with_node g p ws) (raised p u) (raised p v) ≡ has_edge g u v
  edge_then u v = ap (λ (xs : List ℕ). is_among xs (raised p v)) (row_then u) ∙ among_raised p (targets g u) v

  edge_none : (u : ℕ) → has_edge (with_node g p ws) (raised p u) p ≡ false
  edge_none u = ap (λ (xs : List ℕ). is_among xs p) (row_then u) ∙ not_among p (targets g u)

  -- the ways
  path_then : (xs : List ℕ) (u v : ℕ) → Path g u xs v → Path (with_node g p ws) (raised p u) (map (raised p) xs) (raised p v)
  path_then [] u v k = edge_then u v ∙ k
  path_then (x ∷ xs) u v k = (edge_then u x ∙ k.0, path_then xs x v k.1)

  path_back : (xs : List ℕ) (u v : ℕ) → Path (with_node g p ws) (raised p u) xs (raised p v) → Reaches g u v
  path_back [] u v k = ([], sym (edge_then u v) ∙ k)
  path_back (x ∷ xs) u v k = elim (here_or p x) [
    | inl e ↦ absurd (not_both (has_edge (with_node g p ws) (raised p u) p) (ap (has_edge (with_node g p ws) (raised p u)) (sym e) ∙ k.0) (edge_none u))
    | inr there ↦
        let y : ℕ = there.0 in
        let first : has_edge g u y ≡ true = sym (edge_then u y) ∙ ap (has_edge (with_node g p ws) (raised p u)) there.1 ∙ k.0 in
        let more = path_back xs y v (subst (λ (z : ℕ). Path (with_node g p ws) z xs (raised p v)) (sym there.1) k.1) in
        (y ∷ more.0, (first, more.1))
  ]

  path_none : (xs : List ℕ) (u : ℕ) → Path (with_node g p ws) (raised p u) xs p → ⊥
  path_none [] u k = not_both (has_edge (with_node g p ws) (raised p u) p) k (edge_none u)
  path_none (x ∷ xs) u k = elim (here_or p x) [
    | inl e ↦ not_both (has_edge (with_node g p ws) (raised p u) p) (ap (has_edge (with_node g p ws) (raised p u)) (sym e) ∙ k.0) (edge_none u)
    | inr there ↦ path_none xs there.0 (subst (λ (z : ℕ). Path (with_node g p ws) z xs p) (sym there.1) k.1)
  ]

  reaches_then : (u v : ℕ) → reaches (with_node g p ws) (raised p u) (raised p v) ≡ reaches g u v
  reaches_then u v = same_truth (reaches (with_node g p ws) (raised p u) (raised p v)) (reaches g u v)
      (λ k. let there = reaches_path (with_node g p ws) (length (with_node g p ws)) (raised p u) (raised p v) k in let back = path_back there.0 u v there.1 in path_reaches g back.0 u v back.1)
      (λ k. let there = reaches_path g (length g) u v k in path_reaches (with_node g p ws) (map (raised p) there.0) (raised p u) (raised p v) (path_then there.0 u v there.1))

  reaches_none : (u : ℕ) → reaches (with_node g p ws) (raised p u) p ≡ false
  reaches_none u = none_by (reaches (with_node g p ws) (raised p u) p) (λ k. let there = reaches_path (with_node g p ws) (length (with_node g p ws)) (raised p u) p k in path_none there.0 u there.1)

  -- the circles
  circular_then : (u v : ℕ) → is_circular (with_node g p ws) (raised p u) (raised p v) ≡ is_circular g u v
  circular_then u v = ap (λ (b : Bool). b || reaches (with_node g p ws) (raised p v) (raised p u)) (same_test p u v) ∙ ap (λ (b : Bool). (u == v) || b) (reaches_then v u)

  circular_new : (v : ℕ) → is_circular (with_node g p ws) p v ≡ (v == p)
  circular_new v = elim (here_or p v) [
    | inl e ↦ first_holds (p == v) (reaches (with_node g p ws) v p) (eq-eqb p v (sym e)) ∙ sym (eq-eqb v p e)
    | inr there ↦
        let none : is_circular (with_node g p ws) p (raised p there.0) ≡ false = ap (λ (b : Bool). b || reaches (with_node g p ws) (raised p there.0) p) (turned_test p there.0) ∙ reaches_none there.0 in
        subst (λ (z : ℕ). is_circular (with_node g p ws) p z ≡ (z == p)) there.1 (none ∙ sym (apart_test p there.0))
  ]

  -- and what nodes rest on
  rests_then : (u : ℕ) → rests (with_node g p ws) (raised p u) ≡ map (raised p) (rests g u)
  rests_then u =
      ap (filter (λ v. not (is_circular (with_node g p ws) (raised p u) v))) (row_then u)
      ∙ filter_raised (raised p) (λ v. not (is_circular (with_node g p ws) (raised p u) v)) (λ v. not (is_circular g u v)) (λ v. ap not (circular_then u v)) (targets g u)

  rests_new : rests (with_node g p ws) p ≡ others p ws
  rests_new =
      ap (filter (λ v. not (is_circular (with_node g p ws) p v))) row_new
      ∙ same_filter (λ v. not (is_circular (with_node g p ws) p v)) (λ v. not (v == p)) (λ v. ap not (circular_new v)) ws

-- what all nodes rest on
pub all_rests_then : (g : Graph) (p : ℕ) (ws : List ℕ) → p ≤ length g → with_node (all_rests g) p (others p ws) ≡ all_rests (with_node g p ws)
all_rests_then g p ws h = all_rows (with_node (all_rests g) p (others p ws)) (all_rests (with_node g p ws)) same (λ q lt. at q) where
  index : p ≤ length (all_rests g)
  index = let long = rests_long g 0 (length g) in omega (arith, h, long)

  same : length (with_node (all_rests g) p (others p ws)) ≡ length (all_rests (with_node g p ws))
  same = long_then (all_rests g) p (others p ws) index ∙ ap (λ (n : ℕ). n + 1) (rests_long g 0 (length g)) ∙ sym (long_then g p ws h) ∙ sym (rests_long (with_node g p ws) 0 (length (with_node g p ws)))

  at : (q : ℕ) → get_or (with_node (all_rests g) p (others p ws)) q [] ≡ get_or (all_rests (with_node g p ws)) q []
  at q = elim (here_or p q) [
    | inl e ↦ subst (λ (z : ℕ). get_or (with_node (all_rests g) p (others p ws)) z [] ≡ get_or (all_rests (with_node g p ws)) z []) (sym e)
        (row_new (all_rests g) p (others p ws) index ∙ sym (rests_new g p ws h) ∙ sym (rests_there (with_node g p ws) p))
    | inr there ↦ subst (λ (z : ℕ). get_or (with_node (all_rests g) p (others p ws)) z [] ≡ get_or (all_rests (with_node g p ws)) z []) there.1
        (row_then (all_rests g) p (others p ws) index there.0 ∙ ap (map (raised p)) (rests_there g there.0) ∙ sym (rests_then g p ws h there.0) ∙ sym (rests_there (with_node g p ws) (raised p there.0)))
  ]

-- sources of parts of a graph
sources_parts : (n : ℕ) (a b : Graph) (v : ℕ) → sources_from n (a ++ b) v ≡ sources_from n a v ++ sources_from (n + length a) b v
sources_parts n [] b v = let e : n ≡ n + 0 = omega arith in ap (λ (m : ℕ). sources_from m b v) e
sources_parts n (ws ∷ a) b v =
    let e : n + 1 + length a ≡ n + suc (length a) = omega arith in
    ap (λ (us : List ℕ). once_each n ws v ++ us) (sources_parts (n + 1) a b v ∙ ap (λ (m : ℕ). sources_from (n + 1) a v ++ sources_from m b v) e)
    ∙ sym (append_assoc (once_each n ws v) (sources_from (n + 1) a v) (sources_from (n + suc (length a)) b v))

pub once_raised : (p u : ℕ) (ws : List ℕ) (v : ℕ) → once_each u (map (raised p) ws) (raised p v) ≡ once_each u ws v
once_raised p u [] v = refl
once_raised p u (w ∷ ws) v = ap (λ (b : Bool). map (λ (x : ℕ). u) (cond b (raised p w ∷ filter (λ x. x == raised p v) (map (raised p) ws)) (filter (λ x. x == raised p v) (map (raised p) ws)))) (same_test p w v) ∙ by (w == v) (once_raised p u ws v) where
  by : (b : Bool) → once_each u (map (raised p) ws) (raised p v) ≡ once_each u ws v
      → map (λ (x : ℕ). u) (cond b (raised p w ∷ filter (λ x. x == raised p v) (map (raised p) ws)) (filter (λ x. x == raised p v) (map (raised p) ws))) ≡ map (λ (x : ℕ). u) (cond b (w ∷ filter (λ x. x == v) ws) (filter (λ x. x == v) ws))
  by true e = ap (λ (us : List ℕ). u ∷ us) e
  by false e = e

pub once_none : (u : ℕ) (ws : List ℕ) (v : ℕ) → is_among ws v ≡ false → once_each u ws v ≡ []
once_none u [] v h = refl
once_none u (w ∷ ws) v h = by (w == v) h (λ k. once_none u ws v k) where
  by : (b : Bool) → (b || is_among ws v) ≡ false → (is_among ws v ≡ false → once_each u ws v ≡ []) → map (λ (x : ℕ). u) (cond b (w ∷ filter (λ x. x == v) ws) (filter (λ x. x == v) ws)) ≡ []
  by true k rest = absurd cc
  by false k rest = rest k

from_raised : (p n : ℕ) (g : Graph) (v : ℕ) → sources_from n (map (map (raised p)) g) (raised p v) ≡ sources_from n g v
from_raised p n [] v = refl
from_raised p n (ws ∷ g) v = ap (λ (us : List ℕ). us ++ sources_from (n + 1) (map (map (raised p)) g) (raised p v)) (once_raised p n ws v) ∙ ap (λ (us : List ℕ). once_each n ws v ++ us) (from_raised p (n + 1) g v)

from_none : (p n : ℕ) (g : Graph) → sources_from n (map (map (raised p)) g) p ≡ []
from_none p n [] = refl
from_none p n (ws ∷ g) = ap (λ (us : List ℕ). us ++ sources_from (n + 1) (map (map (raised p)) g) p) (once_none n (map (raised p) ws) p (not_among p ws)) ∙ from_none p (n + 1) g

once_next : (u : ℕ) (ws : List ℕ) → map (λ (w : ℕ). u + 1) ws ≡ map (λ (x : ℕ). x + 1) (map (λ (w : ℕ). u) ws)
once_next u [] = refl
once_next u (w ∷ ws) = ap (λ (us : List ℕ). (u + 1) ∷ us) (once_next u ws)

from_next : (n : ℕ) (g : Graph) (v : ℕ) → sources_from (n + 1) g v ≡ map (λ (u : ℕ). u + 1) (sources_from n g v)
from_next n [] v = refl
from_next n (ws ∷ g) v =
    ap (λ (us : List ℕ). us ++ sources_from (n + 1 + 1) g v) (once_next n (filter (λ w. w == v) ws)) ∙ ap (λ (us : List ℕ). map (λ (u : ℕ). u + 1) (once_each n ws v) ++ us) (from_next (n + 1) g v)
    ∙ sym (map-append (λ (u : ℕ). u + 1) (once_each n ws v) (sources_from (n + 1) g v))

-- they pass a test or not as their nodes do
pub once_kept : (test : ℕ → Bool) (u : ℕ) (ws : List ℕ) → test u ≡ true → filter test (map (λ (w : ℕ). u) ws) ≡ map (λ (w : ℕ). u) ws
once_kept test u [] h = refl
once_kept test u (w ∷ ws) h = ap (λ (b : Bool). cond b (u ∷ filter test (map (λ (x : ℕ). u) ws)) (filter test (map (λ (x : ℕ). u) ws))) h ∙ ap (λ (us : List ℕ). u ∷ us) (once_kept test u ws h)

pub once_left : (test : ℕ → Bool) (u : ℕ) (ws : List ℕ) → test u ≡ false → filter test (map (λ (w : ℕ). u) ws) ≡ []
once_left test u [] h = refl
once_left test u (w ∷ ws) h = ap (λ (b : Bool). cond b (u ∷ filter test (map (λ (x : ℕ). u) ws)) (filter test (map (λ (x : ℕ). u) ws))) h ∙ once_left test u ws h

pub from_kept : (test : ℕ → Bool) (n : ℕ) (g : Graph) (v : ℕ) → ((u : ℕ) → n ≤ u → u < n + length g → test u ≡ true) → filter test (sources_from n g v) ≡ sources_from n g v
from_kept test n [] v h = refl
from_kept test n (ws ∷ g) v h =
    filter-append test (once_each n ws v) (sources_from (n + 1) g v)
    ∙ ap (λ (us : List ℕ). us ++ filter test (sources_from (n + 1) g v)) (once_kept test n (filter (λ w. w == v) ws) (h n (omega arith) (omega arith)))
    ∙ ap (λ (us : List ℕ). once_each n ws v ++ us) (from_kept test (n + 1) g v (λ u a b. h u (omega (arith, a)) (omega (arith, b))))

pub from_left : (test : ℕ → Bool) (n : ℕ) (g : Graph) (v : ℕ) → ((u : ℕ) → n ≤ u → u < n + length g → test u ≡ false) → filter test (sources_from n g v) ≡ []
from_left test n [] v h = refl
from_left test n (ws ∷ g) v h =
    filter-append test (once_each n ws v) (sources_from (n + 1) g v)
    ∙ ap (λ (us : List ℕ). us ++ filter test (sources_from (n + 1) g v)) (once_left test n (filter (λ w. w == v) ws) (h n (omega arith) (omega arith)))
    ∙ from_left test (n + 1) g v (λ u a b. h u (omega (arith, a)) (omega (arith, b)))

once_mapped : (f h : ℕ → ℕ) (u : ℕ) (ws : List ℕ) → f u ≡ h u → map f (map (λ (w : ℕ). u) ws) ≡ map h (map (λ (w : ℕ). u) ws)
once_mapped f h u [] e = refl
once_mapped f h u (w ∷ ws) e = ap (λ (x : ℕ). x ∷ map f (map (λ (w : ℕ). u) ws)) e ∙ ap (λ (us : List ℕ). h u ∷ us) (once_mapped f h u ws e)

from_mapped : (f h : ℕ → ℕ) (n : ℕ) (g : Graph) (v : ℕ) → ((u : ℕ) → n ≤ u → u < n + length g → f u ≡ h u) → map f (sources_from n g v) ≡ map h (sources_from n g v)
from_mapped f h n [] v e = refl
from_mapped f h n (ws ∷ g) v e =
    map-append f (once_each n ws v) (sources_from (n + 1) g v)
    ∙ ap (λ (us : List ℕ). us ++ map f (sources_from (n + 1) g v)) (once_mapped f h n (filter (λ w. w == v) ws) (e n (omega arith) (omega arith)))
    ∙ ap (λ (us : List ℕ). map h (once_each n ws v) ++ us) (from_mapped f h (n + 1) g v (λ u a b. e u (omega (arith, a)) (omega (arith, b))))
    ∙ sym (map-append h (once_each n ws v) (sources_from (n + 1) g v))

map_same : (us : List ℕ) → map (λ (u : ℕ). u) us ≡ us
map_same [] = refl
map_same (u ∷ us) = ap (λ (xs : List ℕ). u ∷ xs) (map_same us)

module _ (g : Graph) (p : ℕ) (ws : List ℕ) (h : p ≤ length g) where
  first_long : length (take p g) ≡ p
  first_long = length-take-le p g h

  at_index : 0 + length (take p g) ≡ p
  at_index = omega (arith, first_long)

  at_index_then : 0 + length (map (map (raised p)) (take p g)) ≡ p
  at_index_then = let long = length-map (take p g) (map (raised p)) in omega (arith, first_long, long)

  -- the sources of before are those before the index and those from it on
  split : (v : ℕ) → sources g v ≡ sources_from 0 (take p g) v ++ sources_from p (drop p g) v
  split v =
      ap (λ (x : Graph). sources_from 0 x v) (sym (take-append-drop p g))
      ∙ sources_parts 0 (take p g) (drop p g) v
      ∙ ap (λ (n : ℕ). sources_from 0 (take p g) v ++ sources_from n (drop p g) v) at_index

  before_is : (v : ℕ) → before p (sources g v) ≡ sources_from 0 (take p g) v
  before_is v =
      ap (before p) (split v)
      ∙ filter-append (λ u. nat_lt u p) (sources_from 0 (take p g) v) (sources_from p (drop p g) v)
      ∙ ap (λ (us : List ℕ). us ++ filter (λ u. nat_lt u p) (sources_from p (drop p g) v)) (from_kept (λ u. nat_lt u p) 0 (take p g) v (λ u a b. lt-ltb u p (omega (arith, b, first_long))))
      ∙ ap (λ (us : List ℕ). sources_from 0 (take p g) v ++ us) (from_left (λ u. nat_lt u p) p (drop p g) v (λ u a b. le-ltb u p a))
      ∙ append-nil (sources_from 0 (take p g) v)

  after_is : (v : ℕ) → following p (sources g v) ≡ sources_from (p + 1) (drop p g) v
  after_is v =
      ap (λ (us : List ℕ). map (λ (u : ℕ). u + 1) (filter (λ u. not (nat_lt u p)) us)) (split v)
      ∙ ap (map (λ (u : ℕ). u + 1)) (filter-append (λ u. not (nat_lt u p)) (sources_from 0 (take p g) v) (sources_from p (drop p g) v)
      ∙ ap (λ (us : List ℕ). us ++ filter (λ u. not (nat_lt u p)) (sources_from p (drop p g) v)) (from_left (λ u. not (nat_lt u p)) 0 (take p g) v (λ u a b. ap not (lt-ltb u p (omega (arith, b, first_long)))))
      ∙ from_kept (λ u. not (nat_lt u p)) p (drop p g) v (λ u a b. ap not (le-ltb u p a)))
      ∙ sym (from_next p (drop p g) v)

  -- those before the index stand in front of the others
  pub parted : (v : ℕ) → sources g v ≡ before p (sources g v) ++ filter (λ u. not (nat_lt u p)) (sources g v)
  parted v =
      split v
      ∙ ap (λ (us : List ℕ). us ++ sources_from p (drop p g) v) (sym (before_is v))
      ∙ ap (λ (us : List ℕ). before p (sources g v) ++ us) (sym behind)
    where
      behind : filter (λ u. not (nat_lt u p)) (sources g v) ≡ sources_from p (drop p g) v
      behind =
          ap (filter (λ u. not (nat_lt u p))) (split v)
          ∙ filter-append (λ u. not (nat_lt u p)) (sources_from 0 (take p g) v) (sources_from p (drop p g) v)
          ∙ ap (λ (us : List ℕ). us ++ filter (λ u. not (nat_lt u p)) (sources_from p (drop p g) v)) (from_left (λ u. not (nat_lt u p)) 0 (take p g) v (λ u a b. ap not (lt-ltb u p (omega (arith, b, first_long)))))
          ∙ from_kept (λ u. not (nat_lt u p)) p (drop p g) v (λ u a b. ap not (le-ltb u p a))

  parts_then : (v : ℕ) → sources (with_node g p ws) v ≡ sources_from 0 (map (map (raised p)) (take p g)) v ++ (once_each p ws v ++ sources_from (p + 1) (map (map (raised p)) (drop p g)) v)
  parts_then v =
      sources_parts 0 (take p (map (map (raised p)) g)) (ws ∷ drop p (map (map (raised p)) g)) v
      ∙ ap (λ (x : Graph). sources_from 0 x v ++ sources_from (0 + length x) (ws ∷ drop p (map (map (raised p)) g)) v) (take-map (map (raised p)) p g)
      ∙ ap (λ (n : ℕ). sources_from 0 (map (map (raised p)) (take p g)) v ++ sources_from n (ws ∷ drop p (map (map (raised p)) g)) v) at_index_then
      ∙ ap (λ (x : Graph). sources_from 0 (map (map (raised p)) (take p g)) v ++ sources_from p (ws ∷ x) v) (drop-map (map (raised p)) p g)

  pub sources_raised : (v : ℕ) → sources (with_node g p ws) (raised p v) ≡ before p (sources g v) ++ (once_each p ws (raised p v) ++ following p (sources g v))
  sources_raised v =
      parts_then (raised p v)
      ∙ ap (λ (us : List ℕ). us ++ (once_each p ws (raised p v) ++ sources_from (p + 1) (map (map (raised p)) (drop p g)) (raised p v))) (from_raised p 0 (take p g) v ∙ sym (before_is v))
      ∙ ap (λ (us : List ℕ). before p (sources g v) ++ (once_each p ws (raised p v) ++ us)) (from_raised p (p + 1) (drop p g) v ∙ sym (after_is v))

  pub sources_new : sources (with_node g p ws) p ≡ once_each p ws p
  sources_new =
      parts_then p
      ∙ ap (λ (us : List ℕ). us ++ (once_each p ws p ++ sources_from (p + 1) (map (map (raised p)) (drop p g)) p)) (from_none p 0 (take p g))
      ∙ ap (λ (us : List ℕ). once_each p ws p ++ us) (from_none p (p + 1) (drop p g))
      ∙ append-nil (once_each p ws p)

  -- where no edge leads from the new node
  pub sources_moved : (v : ℕ) → before p (sources g v) ++ following p (sources g v) ≡ map (raised p) (sources g v)
  sources_moved v =
      ap (λ (us : List ℕ). us ++ following p (sources g v)) (before_is v ∙ sym (map_same (sources_from 0 (take p g) v)) ∙ from_mapped (λ u. u) (raised p) 0 (take p g) v (λ u a b. sym (raised_below p u (omega (arith, b, first_long)))))
      ∙ ap (λ (us : List ℕ). map (raised p) (sources_from 0 (take p g) v) ++ us) (after_is v ∙ from_next p (drop p g) v ∙ from_mapped (λ u. u + 1) (raised p) p (drop p g) v (λ u a b. sym (raised_above p u a)))
      ∙ sym (map-append (raised p) (sources_from 0 (take p g) v) (sources_from p (drop p g) v))
      ∙ ap (map (raised p)) (sym (split v))
