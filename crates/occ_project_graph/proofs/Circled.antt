-- Strong components, which are found by going from a node against edges and then along them.
use Rattle.std.proofs.Common.{◌≡◌, ◌<◌, ◌+◌, ℕ, zero, suc, List, [], ◌∷◌, length, get_or, inl, inr, refl, sym, ap, ◌∙◌, subst, arith}
use Rattle.std.specs.Prelude.{Bool, true, false, cond, not, ◌==◌, ◌⊎◌, nat_lt, replicate, slice_set}
use Rattle.std.specs.List.{filter}
use Rattle.std.proofs.lemmas.Bool.{eqb-true, eq-eqb, lt-ltb, ltb-true}
use Rattle.occ_project_graph.specs.Graph.{Graph, IsWhole, Path, all_rests, has_edge, is_among, is_circular, reaches, rests, rests_from, targets}
use Rattle.occ_project_graph.specs.inside.Components.{AreAll, AreComponents, AreMutual, IsTurned, all_apart, all_rests_by, are_apart, component_at, is_one, rests_by}
use Rattle.occ_project_graph.specs.inside.Searching.{IsFound, IsFresh, mark_at}
use Rattle.occ_project_graph.proofs.Searches.{decide}
use Rattle.occ_project_graph.proofs.Turned.{only, reported}
use Rattle.occ_project_graph.proofs.Ways.{both_of, edge_below, edge_reaches, either, first_holds, path_reaches, reaches_on, reaches_path, same_truth, second_holds}

-- ---- lists of numbers

zero_or_more : (n : ℕ) → (n ≡ 0) ⊎ (0 < n)
zero_or_more zero = inl refl
zero_or_more (suc n) = inr (omega arith)

set_here : (xs : List ℕ) (i x : ℕ) → i < length xs → get_or (slice_set xs i x) i 0 ≡ x
set_here [] i x h = absurd (omega arith)
set_here (y ∷ ys) zero x h = refl
set_here (y ∷ ys) (suc i) x h = set_here ys i x (omega arith)

set_there : (xs : List ℕ) (i k x : ℕ) → (k ≡ i → ⊥) → get_or (slice_set xs i x) k 0 ≡ get_or xs k 0
set_there [] i k x n = refl
set_there (y ∷ ys) zero zero x n = absurd (n refl)
set_there (y ∷ ys) zero (suc k) x n = refl
set_there (y ∷ ys) (suc i) zero x n = refl
set_there (y ∷ ys) (suc i) (suc k) x n = set_there ys i k x (λ e. n (ap suc e))

set_long : (xs : List ℕ) (i x : ℕ) → length (slice_set xs i x) ≡ length xs
set_long [] i x = refl
set_long (y ∷ ys) zero x = refl
set_long (y ∷ ys) (suc i) x = ap suc (set_long ys i x)

none_at : (n v : ℕ) → mark_at (replicate n 0) v ≡ 0
none_at zero v = refl
none_at (suc n) zero = refl
none_at (suc n) (suc v) = none_at n v

abbrev zeros : ℕ → List ℕ
zeros n = replicate n 0

zeros_long : (n : ℕ) → length (zeros n) ≡ n
zeros_long zero = refl
zeros_long (suc n) = ap suc (zeros_long n)

pub zeros_fresh : (n from : ℕ) → IsFresh from (replicate n 0)
zeros_fresh n from v e = let z = none_at n v in omega (arith, z, e)

-- ---- a graph that is turned round

turned_edge : (g rows : Graph) → IsTurned g rows → (u v : ℕ) → has_edge rows v u ≡ true → has_edge g u v ≡ true
turned_edge g rows is u v h =
    let l = edge_below rows v u h in
    let len = is.len in
    only g u v (subst (λ (ws : List ℕ). is_among ws u ≡ true) (is.sources_are v (omega (arith, l, len))) h)

edge_turned : (g rows : Graph) → IsWhole g → IsTurned g rows → (u v : ℕ) → has_edge g u v ≡ true → has_edge rows v u ≡ true
edge_turned g rows whole is u v h = subst (λ (ws : List ℕ). is_among ws u ≡ true) (sym (is.sources_are v (whole u v h))) (reported g u v h)

turned_path : (g rows : Graph) → IsTurned g rows → (ws : List ℕ) (u v : ℕ) → Path rows u ws v → reaches g v u ≡ true
turned_path g rows is [] u v p = edge_reaches g (length g) v u (turned_edge g rows is v u p)
turned_path g rows is (w ∷ ws) u v p = reaches_on g v w u (turned_path g rows is ws w v p.1) (edge_reaches g (length g) w u (turned_edge g rows is w u p.0))

turned_reaches : (g rows : Graph) → IsTurned g rows → (u v : ℕ) → reaches rows u v ≡ true → reaches g v u ≡ true
turned_reaches g rows is u v h = let p = reaches_path rows (length rows) u v h in turned_path g rows is p.0 u v p.1

-- ---- nodes that reach one another

turned_round : (g : Graph) (u v : ℕ) → AreMutual g u v → AreMutual g v u
turned_round g u v m = elim m [
  | inl e ↦ inl (sym e)
  | inr r ↦ inr (r.1, r.0)
]

mutual_on : (g : Graph) (u v w : ℕ) → AreMutual g u v → AreMutual g v w → AreMutual g u w
mutual_on g u v w a b = elim a [
  | inl e ↦ subst (λ (x : ℕ). AreMutual g x w) (sym e) b
  | inr r ↦ elim b [
    | inl f ↦ inr (subst (λ (x : ℕ). reaches g u x ≡ true) f r.0, subst (λ (x : ℕ). reaches g x u ≡ true) f r.1)
    | inr s ↦ inr (reaches_on g u v w r.0 s.0, reaches_on g w v u s.1 r.1)
  ]
]

-- ---- no component is found yet

pub none_found : (g : Graph) (ns bs : List ℕ) → ns ≡ replicate (length g) 0 → bs ≡ replicate (length g) 0 → AreComponents g ns bs
none_found g ns bs numbers back =
    let none : (u : ℕ) → component_at ns u ≡ 0 = λ u. ap (λ (xs : List ℕ). get_or xs u 0) numbers ∙ none_at (length g) u in
    let unmarked : (u : ℕ) → mark_at bs u ≡ 0 = λ u. ap (λ (xs : List ℕ). get_or xs u 0) back ∙ none_at (length g) u in
    record {
      len = ap length numbers ∙ zeros_long (length g);
      marks_len = ap length back ∙ zeros_long (length g);
      named = λ u r e. let z = none u in absurd (omega (arith, z, e));
      marked = λ u r e. let z = unmarked u in absurd (omega (arith, z, e));
      one = λ u v p e. let z = none u in absurd (omega (arith, z, p));
      whole = λ u v p a b. let z = none u in absurd (omega (arith, z, p));
    }

-- ---- the component of a node r: those that reach it and are in none yet, and of these those that it reaches

pub fresh_back : (g : Graph) (ns bs : List ℕ) (r : ℕ) → AreComponents g ns bs → component_at ns r ≡ 0 → IsFresh r bs
fresh_back g ns bs r is opened v e = let p = is.marked v r e in omega (arith, p, opened)

pub fresh_numbers : (g : Graph) (ns bs : List ℕ) (r : ℕ) → AreComponents g ns bs → component_at ns r ≡ 0 → IsFresh r ns
fresh_numbers g ns bs r is opened v e = let p = is.named v r e in omega (arith, p, opened)

pub record AtNode (g rows : Graph) (ns bs : List ℕ) (r : ℕ) (back numbers : List ℕ) : Type 0 where
  pub whole : IsWhole g
  pub turned : IsTurned g rows
  pub node : r < length g
  pub opened : component_at ns r ≡ 0
  pub is : AreComponents g ns bs
  pub back_found : IsFound rows ns 0 r bs back
  pub found : IsFound g back (r + 1) r ns numbers

-- what is mutual with r is in no component yet
free : (g rows : Graph) (ns bs : List ℕ) (r : ℕ) (back numbers : List ℕ) → AtNode g rows ns bs r back numbers → (w : ℕ) → reaches g r w ≡ true → reaches g w r ≡ true → component_at ns w ≡ 0
free g rows ns bs r back numbers at w a b = elim (zero_or_more (component_at ns w)) [
  | inl z ↦ z
  | inr p ↦ let same = at.is.whole w r p b a in let z = at.opened in absurd (omega (arith, p, same, z))
]

back_path : (g rows : Graph) (ns bs : List ℕ) (r : ℕ) (back numbers : List ℕ) → AtNode g rows ns bs r back numbers → (ws : List ℕ) (w : ℕ) → Path g w ws r → reaches g r w ≡ true → mark_at back w ≡ r + 1
back_path g rows ns bs r back numbers at [] w p h =
    let l = edge_below g w r p in
    let len = at.is.marks_len in
    at.back_found.start w (edge_turned g rows at.whole at.turned w r p) (omega (arith, l, len), free g rows ns bs r back numbers at w h (edge_reaches g (length g) w r p))
back_path g rows ns bs r back numbers at (x ∷ xs) w p h =
    let there = back_path g rows ns bs r back numbers at xs x p.1 (reaches_on g r w x h (edge_reaches g (length g) w x p.0)) in
    let l = edge_below g w x p.0 in
    let len = at.is.marks_len in
    at.back_found.closed x w there (edge_turned g rows at.whole at.turned w x p.0) (omega (arith, l, len), free g rows ns bs r back numbers at w h (path_reaches g (x ∷ xs) w r p))

back_of : (g rows : Graph) (ns bs : List ℕ) (r : ℕ) (back numbers : List ℕ) → AtNode g rows ns bs r back numbers → (w : ℕ) → reaches g r w ≡ true → reaches g w r ≡ true → mark_at back w ≡ r + 1
back_of g rows ns bs r back numbers at w a b = let p = reaches_path g (length g) w r b in back_path g rows ns bs r back numbers at p.0 w p.1 a

within : (g rows : Graph) (ns bs : List ℕ) (r : ℕ) (back numbers : List ℕ) → AtNode g rows ns bs r back numbers → (u v : ℕ) → has_edge g u v ≡ true → v < length ns
within g rows ns bs r back numbers at u v e = let l = at.whole u v e in let len = at.is.len in omega (arith, l, len)

forth_path : (g rows : Graph) (ns bs : List ℕ) (r : ℕ) (back numbers : List ℕ) → AtNode g rows ns bs r back numbers → (ws : List ℕ) (u v : ℕ) → mark_at numbers u ≡ r + 1 → Path g u ws v → reaches g r u ≡ true → reaches g v r ≡ true → mark_at numbers v ≡ r + 1
forth_path g rows ns bs r back numbers at [] u v m p a b =
    at.found.closed u v m p (within g rows ns bs r back numbers at u v p, back_of g rows ns bs r back numbers at v (reaches_on g r u v a (edge_reaches g (length g) u v p)) b)
forth_path g rows ns bs r back numbers at (x ∷ xs) u v m p a b =
    let to : reaches g r x ≡ true = reaches_on g r u x a (edge_reaches g (length g) u x p.0) in
    let from : reaches g x r ≡ true = reaches_on g x v r (path_reaches g xs x v p.1) b in
    let there = at.found.closed u x m p.0 (within g rows ns bs r back numbers at u x p.0, back_of g rows ns bs r back numbers at x to from) in
    forth_path g rows ns bs r back numbers at xs x v there p.1 to b

from_node : (g rows : Graph) (ns bs : List ℕ) (r : ℕ) (back numbers : List ℕ) → AtNode g rows ns bs r back numbers → (ws : List ℕ) (v : ℕ) → Path g r ws v → reaches g v r ≡ true → mark_at numbers v ≡ r + 1
from_node g rows ns bs r back numbers at [] v p b =
    at.found.start v p (within g rows ns bs r back numbers at r v p, back_of g rows ns bs r back numbers at v (edge_reaches g (length g) r v p) b)
from_node g rows ns bs r back numbers at (x ∷ xs) v p b =
    let to : reaches g r x ≡ true = edge_reaches g (length g) r x p.0 in
    let from : reaches g x r ≡ true = reaches_on g x v r (path_reaches g xs x v p.1) b in
    let there = at.found.start x p.0 (within g rows ns bs r back numbers at r x p.0, back_of g rows ns bs r back numbers at x to from) in
    forth_path g rows ns bs r back numbers at xs x v there p.1 to b

found_all : (g rows : Graph) (ns bs : List ℕ) (r : ℕ) (back numbers : List ℕ) → AtNode g rows ns bs r back numbers → (v : ℕ) → reaches g r v ≡ true → reaches g v r ≡ true → mark_at numbers v ≡ r + 1
found_all g rows ns bs r back numbers at v a b = let p = reaches_path g (length g) r v a in from_node g rows ns bs r back numbers at p.0 v p.1 b

found_only : (g rows : Graph) (ns bs : List ℕ) (r : ℕ) (back numbers : List ℕ) → AtNode g rows ns bs r back numbers → (v : ℕ) → mark_at numbers v ≡ r + 1 → AreMutual g r v
found_only g rows ns bs r back numbers at v m =
    let a = at.found.reached v m in
    let b = at.back_found.reached v a.1 in
    inr (a.0, turned_reaches g rows at.turned r v b.0)

-- what has no component before has none by another name
never : (g rows : Graph) (ns bs : List ℕ) (r : ℕ) (back numbers : List ℕ) → AtNode g rows ns bs r back numbers → (v : ℕ) → component_at ns v ≡ r + 1 → ⊥
never g rows ns bs r back numbers at v e = let p = at.is.named v r e in let z = at.opened in omega (arith, p, z)

here_is : (g rows : Graph) (ns bs : List ℕ) (r : ℕ) (back numbers : List ℕ) → AtNode g rows ns bs r back numbers → component_at (slice_set numbers r (r + 1)) r ≡ r + 1
here_is g rows ns bs r back numbers at = let l = at.node in let a = at.found.len in let b = at.is.len in set_here numbers r (r + 1) (omega (arith, l, a, b))

-- a node has the new number, then it is mutual with r; or it has that of before
new_or_old : (g rows : Graph) (ns bs : List ℕ) (r : ℕ) (back numbers : List ℕ) → AtNode g rows ns bs r back numbers → (v : ℕ) → ((component_at (slice_set numbers r (r + 1)) v ≡ r + 1) × AreMutual g r v) ⊎ (component_at (slice_set numbers r (r + 1)) v ≡ component_at ns v)
new_or_old g rows ns bs r back numbers at v = elim (decide v r) [
  | inl e ↦ inl (subst (λ (x : ℕ). component_at (slice_set numbers r (r + 1)) x ≡ r + 1) (sym e) (here_is g rows ns bs r back numbers at), inl (sym e))
  | inr n ↦
      let same : component_at (slice_set numbers r (r + 1)) v ≡ mark_at numbers v = set_there numbers r v (r + 1) n in
      elim (at.found.kept v) [
        | inl k ↦ inl (same ∙ k, found_only g rows ns bs r back numbers at v k)
        | inr k ↦ inr (same ∙ k)
      ]
]

-- what has a component goes on to have one
pub stays : (g rows : Graph) (ns bs : List ℕ) (r : ℕ) (back numbers : List ℕ) → AtNode g rows ns bs r back numbers → (v : ℕ) → 0 < component_at ns v → 0 < component_at (slice_set numbers r (r + 1)) v
stays g rows ns bs r back numbers at v p = elim (new_or_old g rows ns bs r back numbers at v) [
  | inl k ↦ let e = k.0 in omega (arith, e)
  | inr k ↦ omega (arith, k, p)
]

pub has_one : (g rows : Graph) (ns bs : List ℕ) (r : ℕ) (back numbers : List ℕ) → AtNode g rows ns bs r back numbers → 0 < component_at (slice_set numbers r (r + 1)) r
has_one g rows ns bs r back numbers at = let e = here_is g rows ns bs r back numbers at in omega (arith, e)

mutual_new : (g rows : Graph) (ns bs : List ℕ) (r : ℕ) (back numbers : List ℕ) → AtNode g rows ns bs r back numbers → (v : ℕ) → AreMutual g r v → component_at (slice_set numbers r (r + 1)) v ≡ r + 1
mutual_new g rows ns bs r back numbers at v m = elim (decide v r) [
  | inl e ↦ subst (λ (x : ℕ). component_at (slice_set numbers r (r + 1)) x ≡ r + 1) (sym e) (here_is g rows ns bs r back numbers at)
  | inr n ↦ elim m [
    | inl e ↦ absurd (n (sym e))
    | inr b ↦ set_there numbers r v (r + 1) n ∙ found_all g rows ns bs r back numbers at v b.0 b.1
  ]
]

mutual_free : (g rows : Graph) (ns bs : List ℕ) (r : ℕ) (back numbers : List ℕ) → AtNode g rows ns bs r back numbers → (v : ℕ) → AreMutual g r v → component_at ns v ≡ 0
mutual_free g rows ns bs r back numbers at v m = elim m [
  | inl e ↦ subst (λ (x : ℕ). component_at ns x ≡ 0) e at.opened
  | inr b ↦ free g rows ns bs r back numbers at v b.0 b.1
]

pub one_more : (g rows : Graph) (ns bs : List ℕ) (r : ℕ) (back numbers : List ℕ) → AtNode g rows ns bs r back numbers → AreComponents g (slice_set numbers r (r + 1)) back
one_more g rows ns bs r back numbers at = record {
  len = set_long numbers r (r + 1) ∙ at.found.len ∙ at.is.len;
  marks_len = at.back_found.len ∙ at.is.marks_len;
  named = λ u x e. elim (new_or_old g rows ns bs r back numbers at u) [
    | inl k ↦ let k0 = k.0 in let same : x ≡ r = omega (arith, k0, e) in subst (λ (y : ℕ). 0 < component_at (slice_set numbers r (r + 1)) y) (sym same) (has_one g rows ns bs r back numbers at)
    | inr k ↦ stays g rows ns bs r back numbers at x (at.is.named u x (sym k ∙ e))
  ];
  marked = λ u x e. elim (at.back_found.kept u) [
    | inl k ↦ let same : x ≡ r = omega (arith, k, e) in subst (λ (y : ℕ). 0 < component_at (slice_set numbers r (r + 1)) y) (sym same) (has_one g rows ns bs r back numbers at)
    | inr k ↦ stays g rows ns bs r back numbers at x (at.is.marked u x (sym k ∙ e))
  ];
  one = λ u v p e. elim (new_or_old g rows ns bs r back numbers at u) [
    | inl k ↦ elim (new_or_old g rows ns bs r back numbers at v) [
      | inl m ↦ mutual_on g u r v (turned_round g r u k.1) m.1
      | inr m ↦ absurd (never g rows ns bs r back numbers at v (sym m ∙ e ∙ k.0))
    ]
    | inr k ↦ elim (new_or_old g rows ns bs r back numbers at v) [
      | inl m ↦ absurd (never g rows ns bs r back numbers at u (sym k ∙ sym e ∙ m.0))
      | inr m ↦ at.is.one u v (omega (arith, k, p)) (sym m ∙ e ∙ k)
    ]
  ];
  whole = λ u v p a b. elim (new_or_old g rows ns bs r back numbers at u) [
    | inl k ↦ mutual_new g rows ns bs r back numbers at v (mutual_on g r u v k.1 (inr (a, b))) ∙ sym k.0
    | inr k ↦
        let pos : 0 < component_at ns u = omega (arith, k, p) in
        let same : component_at ns v ≡ component_at ns u = at.is.whole u v pos a b in
        elim (new_or_old g rows ns bs r back numbers at v) [
          | inl m ↦ let z = mutual_free g rows ns bs r back numbers at v m.1 in absurd (omega (arith, z, same, pos))
          | inr m ↦ m ∙ same ∙ sym k
        ]
  ];
}

-- ---- all components are found

pub all_found : (g : Graph) (ns bs : List ℕ) → AreComponents g ns bs → ((u : ℕ) → u < length g → 0 < component_at ns u) → AreAll g ns
all_found g ns bs is all u v l k = (
  λ e. is.one u v (all u l) (sym e),
  λ m. elim m [
    | inl e ↦ ap (component_at ns) e
    | inr b ↦ sym (is.whole u v (all u l) b.0 b.1)
  ],
)

-- ---- what nodes rest on

circle_is : (g : Graph) (numbers : List ℕ) → AreAll g numbers → IsWhole g → (u v : ℕ) → has_edge g u v ≡ true → is_one numbers u v ≡ is_circular g u v
circle_is g numbers all whole u v e =
    let is = all u v (edge_below g u v e) (whole u v e) in
    same_truth (is_one numbers u v) (is_circular g u v)
    (λ h. elim (is.0 (eqb-true (component_at numbers u) (component_at numbers v) h)) [
      | inl s ↦ first_holds (u == v) (reaches g v u) (eq-eqb u v s)
      | inr b ↦ second_holds (u == v) (reaches g v u) b.1
    ])
    (λ h. eq-eqb (component_at numbers u) (component_at numbers v) (elim (either (u == v) (reaches g v u) h) [
      | inl s ↦ is.1 (inl (eqb-true u v s))
      | inr b ↦ is.1 (inr (edge_reaches g (length g) u v e, b))
    ]))

rests_are : (g : Graph) (c : List ℕ) (u : ℕ) (vs : List ℕ) → ((v : ℕ) → is_among vs v ≡ true → is_one c u v ≡ is_circular g u v) → rests_by c u vs ≡ filter (λ v. not (is_circular g u v)) vs
rests_are g c u [] is = refl
rests_are g c u (v ∷ vs) is =
    let more : rests_by c u vs ≡ filter (λ w. not (is_circular g u w)) vs = rests_are g c u vs (λ w k. is w (second_holds (v == w) (is_among vs w) k)) in
    let here : is_one c u v ≡ is_circular g u v = is v (first_holds (v == v) (is_among vs v) (eq-eqb v v refl)) in
    by (is_one c u v) (is_circular g u v) here more
  where
    by : (a b : Bool) → a ≡ b → rests_by c u vs ≡ filter (λ w. not (is_circular g u w)) vs → cond a (rests_by c u vs) (v ∷ rests_by c u vs) ≡ cond (not b) (v ∷ filter (λ w. not (is_circular g u w)) vs) (filter (λ w. not (is_circular g u w)) vs)
    by true true e m = m
    by true false e m = absurd (cc)
    by false true e m = absurd (cc)
    by false false e m = ap (λ (xs : List ℕ). v ∷ xs) m

all_are : (g : Graph) (numbers : List ℕ) → AreAll g numbers → IsWhole g → (u : ℕ) (rest : List (List ℕ)) → ((k : ℕ) → get_or rest k [] ≡ get_or g (u + k) []) → all_rests_by numbers u rest ≡ rests_from g u (length rest)
all_are g c is whole u [] at = refl
all_are g c is whole u (vs ∷ rest) at =
    let zero_more : u + 0 ≡ u = omega arith in
    let here : vs ≡ targets g u = at 0 ∙ ap (targets g) zero_more in
    let first : rests_by c u vs ≡ rests g u = rests_are g c u vs (λ v k. circle_is g c is whole u v (subst (λ (ws : List ℕ). is_among ws v ≡ true) here k)) ∙ ap (filter (λ v. not (is_circular g u v))) here in
    let more : all_rests_by c (u + 1) rest ≡ rests_from g (u + 1) (length rest) = all_are g c is whole (u + 1) rest (λ k. let step : u + suc k ≡ u + 1 + k = omega arith in at (suc k) ∙ ap (targets g) step) in
    ap (λ (xs : List ℕ). xs ∷ all_rests_by c (u + 1) rest) first ∙ ap (λ (xss : List (List ℕ)). rests g u ∷ xss) more

pub all_is : (g : Graph) (numbers : List ℕ) → AreAll g numbers → IsWhole g → all_rests_by numbers 0 g ≡ all_rests g
all_is g c is whole = all_are g c is whole 0 g (λ k. let e : k ≡ 0 + k = omega arith in ap (targets g) e)

-- ---- no edge stands in a circle

apart_among : (numbers : List ℕ) (u : ℕ) (vs : List ℕ) (v : ℕ) → are_apart numbers u vs ≡ true → is_among vs v ≡ true → is_one numbers u v ≡ false
apart_among numbers u [] v all h = absurd (cc)
apart_among numbers u (w ∷ ws) v all h =
    let b = both_of (not (is_one numbers u w)) (are_apart numbers u ws) all in
    elim (either (w == v) (is_among ws v) h) [
      | inl e ↦ subst (λ (x : ℕ). is_one numbers u x ≡ false) (eqb-true w v e) (not_true (is_one numbers u w) b.0)
      | inr k ↦ apart_among numbers u ws v b.1 k
    ]
  where
    not_true : (b : Bool) → not b ≡ true → b ≡ false
    not_true true h = absurd (cc)
    not_true false h = refl

apart_from : (numbers : List ℕ) (u : ℕ) (rest : List (List ℕ)) → all_apart numbers u rest ≡ true → (k v : ℕ) → is_among (get_or rest k []) v ≡ true → is_one numbers (u + k) v ≡ false
apart_from numbers u [] all k v h = absurd (cc)
apart_from numbers u (vs ∷ rest) all zero v h =
    let b = both_of (are_apart numbers u vs) (all_apart numbers (u + 1) rest) all in
    let same : u ≡ u + 0 = omega arith in
    subst (λ (x : ℕ). is_one numbers x v ≡ false) same (apart_among numbers u vs v b.0 h)
apart_from numbers u (vs ∷ rest) all (suc k) v h =
    let b = both_of (are_apart numbers u vs) (all_apart numbers (u + 1) rest) all in
    let same : u + 1 + k ≡ u + suc k = omega arith in
    subst (λ (x : ℕ). is_one numbers x v ≡ false) same (apart_from numbers (u + 1) rest b.1 k v h)

pub none_circular : (g : Graph) (numbers : List ℕ) → AreAll g numbers → IsWhole g → all_apart numbers 0 g ≡ true → (u v : ℕ) → has_edge g u v ≡ true → is_circular g u v ≡ false
none_circular g numbers is whole all u v e =
    let same : 0 + u ≡ u = omega arith in
    sym (circle_is g numbers is whole u v e) ∙ subst (λ (x : ℕ). is_one numbers x v ≡ false) same (apart_from numbers 0 g all u v e)

-- ---- whether a node reaches itself

path_below : (g : Graph) (ws : List ℕ) (w v : ℕ) → Path g w ws v → w < length g
path_below g [] w v p = edge_below g w v p
path_below g (x ∷ xs) w v p = edge_below g w x p.0

come_on : (g : Graph) (node : ℕ) (old new : List ℕ) → node < length g → length old ≡ length g → IsFound g [] 0 node old new → (ws : List ℕ) (u : ℕ) → mark_at new u ≡ node + 1 → Path g u ws node → mark_at new node ≡ node + 1
come_on g node old new l long found [] u m p = found.closed u node m p (omega (arith, l, long), refl)
come_on g node old new l long found (w ∷ ws) u m p = let b = path_below g ws w node p.1 in come_on g node old new l long found ws w (found.closed u w m p.0 (omega (arith, b, long), refl)) p.1

come_back : (g : Graph) (node : ℕ) (old new : List ℕ) → node < length g → length old ≡ length g → IsFound g [] 0 node old new → (ws : List ℕ) → Path g node ws node → mark_at new node ≡ node + 1
come_back g node old new l long found [] p = found.start node p (omega (arith, l, long), refl)
come_back g node old new l long found (w ∷ ws) p = let b = path_below g ws w node p.1 in come_on g node old new l long found ws w (found.start w p.0 (omega (arith, b, long), refl)) p.1

pub back_to_itself : (g : Graph) (node : ℕ) (new : List ℕ) → node < length g → IsFound g [] 0 node (replicate (length g) 0) new → nat_lt 0 (mark_at new node) ≡ reaches g node node
back_to_itself g node new l found = same_truth (nat_lt 0 (mark_at new node)) (reaches g node node)
    (λ p. elim (found.kept node) [
      | inl k ↦ (found.reached node k).0
      | inr k ↦ let z = none_at (length g) node in let b = ltb-true 0 (mark_at new node) p in absurd (omega (arith, k, z, b))
    ])
    (λ r.
    let p = reaches_path g (length g) node node r in
    let m = come_back g node (zeros (length g)) new l (zeros_long (length g)) found p.0 p.1 in
    lt-ltb 0 (mark_at new node) (omega (arith, m)))
