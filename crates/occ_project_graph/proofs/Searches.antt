-- What a search comes to.
use Rattle.std.proofs.Common.{◌≡◌, ◌<◌, ◌≤◌, ◌+◌, ℕ, zero, suc, List, [], ◌∷◌, ◌++◌, length, get_or, set, drop, inl, inr, refl, sym, ap, ◌∙◌, subst, arith}
use Rattle.std.specs.Prelude.{Bool, true, false, not, cond, ◌&&◌, ◌==◌, ◌⊎◌, nat_lt, Result, Ok, Err, OnOk}
use Rattle.std.proofs.lemmas.Bool.{eqb-true, eq-eqb, ltb-true, lt-ltb}
use Rattle.std.proofs.lemmas.List.{get_or-set_same, get_or-set_other, length-set, get_or_default}
use Rattle.std.proofs.lemmas.List.Folds.{list_any-append}
use Rattle.occ_project_graph.specs.Graph.{Graph, has_edge, is_among, reaches, targets}
use Rattle.occ_project_graph.specs.inside.Searching.{IsFound, IsFresh, IsOpen, IsSearch, is_next, mark_at, seen_all, seen_with, unmarked}
use Rattle.occ_project_graph.specs.declared.search.Seen.{Seen}
use Rattle.occ_project_graph.proofs.Ways.{both, both_of, edge_reaches, either, first_holds, second_holds, reaches_on}

-- what it adds where it comes to these nodes
pub record Grown (others : List ℕ) (other mark : ℕ) (s t : Seen) (vs : List ℕ) : Type 0 where
  pub len : length t.marks ≡ length s.marks
  pub count : unmarked mark t.marks + length t.queue ≡ unmarked mark s.marks + length s.queue
  pub before : (v : ℕ) → mark_at s.marks v ≡ mark → mark_at t.marks v ≡ mark
  pub kept : (v : ℕ) → (mark_at t.marks v ≡ mark) ⊎ (mark_at t.marks v ≡ mark_at s.marks v)
  pub all : (v : ℕ) → is_among vs v ≡ true → IsOpen others other s.marks v → mark_at t.marks v ≡ mark
  pub more : List ℕ
  pub queue : t.queue ≡ s.queue ++ more
  pub fresh : (v : ℕ) → mark_at t.marks v ≡ mark → (mark_at s.marks v ≡ mark) ⊎ (is_among more v ≡ true)
  pub among : (v : ℕ) → is_among more v ≡ true → (is_among vs v ≡ true) × (mark_at others v ≡ other)

append_nothing : (xs : List ℕ) → xs ≡ xs ++ []
append_nothing [] = refl
append_nothing (x ∷ xs) = ap (λ (ys : List ℕ). x ∷ ys) (append_nothing xs)

append_both : (xs ys zs : List ℕ) → (xs ++ ys) ++ zs ≡ xs ++ (ys ++ zs)
append_both [] ys zs = refl
append_both (x ∷ xs) ys zs = ap (λ (us : List ℕ). x ∷ us) (append_both xs ys zs)

length_one : (xs : List ℕ) (v : ℕ) → length (xs ++ v ∷ []) ≡ suc (length xs)
length_one [] v = refl
length_one (x ∷ xs) v = ap suc (length_one xs v)

pub among_first : (xs ys : List ℕ) (v : ℕ) → is_among xs v ≡ true → is_among (xs ++ ys) v ≡ true
among_first xs ys v h = list_any-append (λ w. w == v) xs ys ∙ first_holds (is_among xs v) (is_among ys v) h

pub among_second : (xs ys : List ℕ) (v : ℕ) → is_among ys v ≡ true → is_among (xs ++ ys) v ≡ true
among_second xs ys v h = list_any-append (λ w. w == v) xs ys ∙ second_holds (is_among xs v) (is_among ys v) h

pub among_either : (xs ys : List ℕ) (v : ℕ) → is_among (xs ++ ys) v ≡ true → (is_among xs v ≡ true) ⊎ (is_among ys v ≡ true)
among_either xs ys v h = either (is_among xs v) (is_among ys v) (sym (list_any-append (λ w. w == v) xs ys) ∙ h)

among_one : (u v : ℕ) → is_among (u ∷ []) v ≡ true → u ≡ v
among_one u v h = elim (either (u == v) false h) [
  | inl e ↦ eqb-true u v e
  | inr k ↦ absurd (cc)
]

one_among : (u v : ℕ) → u ≡ v → is_among (u ∷ []) v ≡ true
one_among u v e = first_holds (u == v) false (eq-eqb u v e)

one_fewer : (mark : ℕ) (marks : List ℕ) (v : ℕ) → v < length marks → (mark_at marks v == mark) ≡ false → suc (unmarked mark (set marks v mark)) ≡ unmarked mark marks
one_fewer mark [] v l h = absurd (omega arith)
one_fewer mark (m ∷ ms) zero l h =
    let here : (mark == mark) ≡ true = eq-eqb mark mark refl in
    let left : Bool → ℕ = λ b. cond b 0 1 in
    let was : left (m == mark) ≡ left false = ap left h in
    let is : left (mark == mark) ≡ left true = ap left here in
    omega (arith, was, is)
one_fewer mark (m ∷ ms) (suc v) l h = let k = one_fewer mark ms v (omega arith) h in omega (arith, k)

marked_same : (mark : ℕ) (marks : List ℕ) (v : ℕ) → v < length marks → mark_at (set marks v mark) v ≡ mark
marked_same mark marks v l = get_or-set_same marks v mark 0 l

marked_other : (mark : ℕ) (marks : List ℕ) (v u : ℕ) → (u ≡ v → ⊥) → mark_at (set marks v mark) u ≡ mark_at marks u
marked_other mark marks v u h = get_or-set_other marks v u mark 0 h

nothing_grown : (others : List ℕ) (other mark : ℕ) (s : Seen) → Grown others other mark s s []
nothing_grown others other mark s = record {
  len = refl;
  count = refl;
  before = λ v h. h;
  kept = λ v. inr refl;
  all = λ v h o. absurd (cc);
  more = [];
  queue = append_nothing s.queue;
  fresh = λ v h. inl h;
  among = λ v h. absurd (cc);
}

pub decide : (u v : ℕ) → (u ≡ v) ⊎ (u ≡ v → ⊥)
decide zero zero = inl refl
decide zero (suc v) = inr (λ e. absurd (omega (arith, e)))
decide (suc u) zero = inr (λ e. absurd (omega (arith, e)))
decide (suc u) (suc v) = elim (decide u v) [
  | inl e ↦ inl (ap suc e)
  | inr k ↦ inr (λ e. k (omega (arith, e)))
]

-- what is next is open and has not the mark
next_is : (others : List ℕ) (other mark : ℕ) (marks : List ℕ) (v : ℕ) → is_next others other mark marks v ≡ true → (v < length marks) × (mark_at others v ≡ other) × ((mark_at marks v == mark) ≡ false)
next_is others other mark marks v h =
    let a = both_of (nat_lt v (length marks)) ((mark_at others v == other) && not (mark_at marks v == mark)) h in
    let b = both_of (mark_at others v == other) (not (mark_at marks v == mark)) a.1 in
    (ltb-true v (length marks) a.0, eqb-true (mark_at others v) other b.0, not_false (mark_at marks v == mark) b.1)
  where
    not_false : (b : Bool) → not b ≡ true → b ≡ false
    not_false true h = absurd (cc)
    not_false false h = refl

-- what is open and not next has the mark
not_next : (others : List ℕ) (other mark : ℕ) (marks : List ℕ) (v : ℕ) → is_next others other mark marks v ≡ false → IsOpen others other marks v → mark_at marks v ≡ mark
not_next others other mark marks v h o = by (mark_at marks v == mark) refl where
  by : (b : Bool) → (mark_at marks v == mark) ≡ b → mark_at marks v ≡ mark
  by true e = eqb-true (mark_at marks v) mark e
  by false e =
      let next : is_next others other mark marks v ≡ true
      = both (nat_lt v (length marks)) ((mark_at others v == other) && not (mark_at marks v == mark)) (lt-ltb v (length marks) o.0)
      (both (mark_at others v == other) (not (mark_at marks v == mark)) (eq-eqb (mark_at others v) other o.1) (ap not e)) in
      absurd (cc (next, h))

seen_again : (others : List ℕ) (other mark : ℕ) (s : Seen) (v : ℕ) → is_next others other mark s.marks v ≡ false → Grown others other mark s s (v ∷ [])
seen_again others other mark s v m = record {
  len = refl;
  count = refl;
  before = λ u h. h;
  kept = λ u. inr refl;
  all = λ u h o. let e = among_one v u h in subst (λ (x : ℕ). mark_at s.marks x ≡ mark) e (not_next others other mark s.marks v m (subst (λ (x : ℕ). IsOpen others other s.marks x) (sym e) o));
  more = [];
  queue = append_nothing s.queue;
  fresh = λ u h. inl h;
  among = λ u h. absurd (cc);
}

seen_first : (others : List ℕ) (other mark : ℕ) (s : Seen) (v : ℕ) → is_next others other mark s.marks v ≡ true → Grown others other mark s (record { marks = set s.marks v mark; queue = s.queue ++ v ∷ [] }) (v ∷ [])
seen_first others other mark s v h =
    let is = next_is others other mark s.marks v h in
    let here : mark_at (set s.marks v mark) v ≡ mark = marked_same mark s.marks v is.0 in
    record {
      len = length-set s.marks v mark;
      count = let a = one_fewer mark s.marks v is.0 is.2 in let b = length_one s.queue v in omega (arith, a, b);
      before = λ u k. elim (decide u v) [
        | inl e ↦ subst (λ (x : ℕ). mark_at (set s.marks v mark) x ≡ mark) (sym e) here
        | inr n ↦ marked_other mark s.marks v u n ∙ k
      ];
      kept = λ u. elim (decide u v) [
        | inl e ↦ inl (subst (λ (x : ℕ). mark_at (set s.marks v mark) x ≡ mark) (sym e) here)
        | inr n ↦ inr (marked_other mark s.marks v u n)
      ];
      all = λ u k o. subst (λ (x : ℕ). mark_at (set s.marks v mark) x ≡ mark) (among_one v u k) here;
      more = v ∷ [];
      queue = refl;
      fresh = λ u k. elim (decide u v) [
        | inl e ↦ inr (one_among v u (sym e))
        | inr n ↦ inl (sym (marked_other mark s.marks v u n) ∙ k)
      ];
      among = λ u k. (k, subst (λ (x : ℕ). mark_at others x ≡ other) (among_one v u k) is.1);
    }

seen_grown : (others : List ℕ) (other mark : ℕ) (s : Seen) (v : ℕ) → Grown others other mark s (seen_with others other mark s v) (v ∷ [])
seen_grown others other mark s v = by (is_next others other mark s.marks v) refl where
  by : (b : Bool) → is_next others other mark s.marks v ≡ b → Grown others other mark s (cond b (record { marks = set s.marks v mark; queue = s.queue ++ v ∷ [] }) s) (v ∷ [])
  by true e = seen_first others other mark s v e
  by false e = seen_again others other mark s v e

still_open : (others : List ℕ) (other : ℕ) (s t : Seen) (v : ℕ) → length t.marks ≡ length s.marks → IsOpen others other s.marks v → IsOpen others other t.marks v
still_open others other s t v e o = let l = o.0 in (omega (arith, l, e), o.1)

both_grown : (others : List ℕ) (other mark : ℕ) (s t r : Seen) (v : ℕ) (vs : List ℕ) → Grown others other mark s t (v ∷ []) → Grown others other mark t r vs → Grown others other mark s r (v ∷ vs)
both_grown others other mark s t r v vs a b = record {
  len = b.len ∙ a.len;
  count = b.count ∙ a.count;
  before = λ u h. b.before u (a.before u h);
  kept = λ u. elim (b.kept u) [
    | inl k ↦ inl k
    | inr k ↦ elim (a.kept u) [
      | inl j ↦ inl (k ∙ j)
      | inr j ↦ inr (k ∙ j)
    ]
  ];
  all = λ u h o. elim (among_either (v ∷ []) vs u h) [
    | inl k ↦ b.before u (a.all u k o)
    | inr k ↦ b.all u k (still_open others other s t u a.len o)
  ];
  more = a.more ++ b.more;
  queue = b.queue ∙ ap (λ (q : List ℕ). q ++ b.more) a.queue ∙ append_both s.queue a.more b.more;
  fresh = λ u h. elim (b.fresh u h) [
    | inl k ↦ elim (a.fresh u k) [
      | inl j ↦ inl j
      | inr j ↦ inr (among_first a.more b.more u j)
    ]
    | inr k ↦ inr (among_second a.more b.more u k)
  ];
  among = λ u h. elim (among_either a.more b.more u h) [
    | inl k ↦ let m = a.among u k in (among_first (v ∷ []) vs u m.0, m.1)
    | inr k ↦ let m = b.among u k in (among_second (v ∷ []) vs u m.0, m.1)
  ];
}

pub all_grown : (others : List ℕ) (other mark : ℕ) (s : Seen) (vs : List ℕ) → Grown others other mark s (seen_all others other mark s vs) vs
all_grown others other mark s [] = nothing_grown others other mark s
all_grown others other mark s (v ∷ vs) =
    let t = seen_with others other mark s v in
    both_grown others other mark s t (seen_all others other mark t vs) v vs (seen_grown others other mark s v) (all_grown others other mark t vs)

length_both : (xs ys : List ℕ) → length (xs ++ ys) ≡ length xs + length ys
length_both [] ys = omega arith
length_both (x ∷ xs) ys = let k = length_both xs ys in omega arith

-- what stands at an index is among the list, and the first of what follows
at_among : (xs : List ℕ) (n d : ℕ) → n < length xs → is_among xs (get_or xs n d) ≡ true
at_among [] n d h = absurd (omega arith)
at_among (x ∷ xs) zero d h = first_holds (x == x) (is_among xs x) (eq-eqb x x refl)
at_among (x ∷ xs) (suc n) d h = second_holds (x == get_or xs n d) (is_among xs (get_or xs n d)) (at_among xs n d (omega arith))

dropped : (xs : List ℕ) (n d : ℕ) → n < length xs → drop n xs ≡ get_or xs n d ∷ drop (suc n) xs
dropped [] n d h = absurd (omega arith)
dropped (x ∷ xs) zero d h = refl
dropped (x ∷ xs) (suc n) d h = dropped xs n d (omega arith)

drop_both : (n : ℕ) (xs ys : List ℕ) → n ≤ length xs → drop n (xs ++ ys) ≡ drop n xs ++ ys
drop_both zero xs ys h = refl
drop_both (suc n) [] ys h = absurd (omega arith)
drop_both (suc n) (x ∷ xs) ys h = drop_both n xs ys (omega arith)

drop_past : (n : ℕ) (xs : List ℕ) → length xs ≤ n → drop n xs ≡ []
drop_past zero [] h = refl
drop_past zero (x ∷ xs) h = absurd (omega arith)
drop_past (suc n) [] h = refl
drop_past (suc n) (x ∷ xs) h = drop_past n xs (omega arith)

begun_with : (g : Graph) (others : List ℕ) (other from : ℕ) (old : List ℕ) (s : Seen) → IsFresh from old → Grown others other (from + 1) (record { marks = old; queue = [] }) s (targets g from) → IsSearch g others other from old s 0
begun_with g others other from old s none grown = record {
  within = omega arith;
  len = grown.len;
  count = let c = grown.count in omega (arith, c);
  queued = λ u h. edge_reaches g (length g) from u (grown.among u (subst (λ (q : List ℕ). is_among q u ≡ true) grown.queue h)).0;
  kept = grown.kept;
  reached = λ v m. elim (grown.fresh v m) [
    | inl k ↦ absurd (none v k)
    | inr k ↦ let a = grown.among v k in (edge_reaches g (length g) from v a.0, a.1)
  ];
  start = λ v h o. grown.all v h o;
  closed = λ u v m e o. elim (grown.fresh u m) [
    | inl k ↦ absurd (none u k)
    | inr k ↦ inr (subst (λ (q : List ℕ). is_among q u ≡ true) (sym grown.queue) k)
  ];
}

pub begun : (g : Graph) (others : List ℕ) (other from : ℕ) (old : List ℕ) (s t : Seen) → IsFresh from old → t ≡ record { marks = old; queue = [] } → s ≡ seen_all others other (from + 1) t (targets g from) → IsSearch g others other from old s 0
begun g others other from old s t none first e = begun_with g others other from old s none
    (subst (λ (z : Seen). Grown others other (from + 1) z s (targets g from)) first (subst (λ (z : Seen). Grown others other (from + 1) t z (targets g from)) (sym e) (all_grown others other (from + 1) t (targets g from))))

on_with : (g : Graph) (others : List ℕ) (other from : ℕ) (old : List ℕ) (s t : Seen) (n u : ℕ) → n < length s.queue → u ≡ get_or s.queue n u → IsSearch g others other from old s n → Grown others other (from + 1) s t (targets g u) → IsSearch g others other from old t (suc n)
on_with g others other from old s t n u l at is grown =
    let there : is_among s.queue u ≡ true = subst (λ (x : ℕ). is_among s.queue x ≡ true) (sym at) (at_among s.queue n u l) in
    let came : reaches g from u ≡ true = is.queued u there in
    let size : length t.queue ≡ length s.queue + length grown.more = ap length grown.queue ∙ length_both s.queue grown.more in
    let left : drop n s.queue ≡ u ∷ drop (suc n) s.queue = dropped s.queue n u l ∙ ap (λ (x : ℕ). x ∷ drop (suc n) s.queue) (sym at) in
    let following : drop (suc n) t.queue ≡ drop (suc n) s.queue ++ grown.more = ap (drop (suc n)) grown.queue ∙ drop_both (suc n) s.queue grown.more (omega arith) in
    let len : length s.marks ≡ length old = is.len in
    let opened : (v : ℕ) → IsOpen others other old v → IsOpen others other s.marks v = λ v o. let b = o.0 in (omega (arith, b, len), o.1) in
    record {
      within = omega (arith, size);
      len = grown.len ∙ is.len;
      count = grown.count ∙ is.count;
      queued = λ w h. elim (among_either s.queue grown.more w (subst (λ (q : List ℕ). is_among q w ≡ true) grown.queue h)) [
        | inl k ↦ is.queued w k
        | inr k ↦ reaches_on g from u w came (edge_reaches g (length g) u w (grown.among w k).0)
      ];
      kept = λ v. elim (grown.kept v) [
        | inl k ↦ inl k
        | inr k ↦ elim (is.kept v) [
          | inl j ↦ inl (k ∙ j)
          | inr j ↦ inr (k ∙ j)
        ]
      ];
      reached = λ v m. elim (grown.fresh v m) [
        | inl k ↦ is.reached v k
        | inr k ↦ let a = grown.among v k in (reaches_on g from u v came (edge_reaches g (length g) u v a.0), a.1)
      ];
      start = λ v h o. grown.before v (is.start v h o);
      closed = λ x v m e o. elim (grown.fresh x m) [
        | inl k ↦ elim (is.closed x v k e o) [
          | inl j ↦ inl (grown.before v j)
          | inr j ↦ elim (among_either (u ∷ []) (drop (suc n) s.queue) x (subst (λ (q : List ℕ). is_among q x ≡ true) left j)) [
            | inl i ↦ inl (grown.all v (subst (λ (y : ℕ). has_edge g y v ≡ true) (sym (among_one u x i)) e) (opened v o))
            | inr i ↦ inr (subst (λ (q : List ℕ). is_among q x ≡ true) (sym following) (among_first (drop (suc n) s.queue) grown.more x i))
          ]
        ]
        | inr k ↦ inr (subst (λ (q : List ℕ). is_among q x ≡ true) (sym following) (among_second (drop (suc n) s.queue) grown.more x k))
      ];
    }

pub goes_on_from : (g : Graph) (others : List ℕ) (other from : ℕ) (old : List ℕ) (s t : Seen) (n : ℕ) → n < length s.queue → IsSearch g others other from old s n → t ≡ seen_all others other (from + 1) s (targets g (get_or s.queue n 0)) → IsSearch g others other from old t (n + 1)
goes_on_from g others other from old s t n l is e =
    let u = get_or s.queue n 0 in
    let at : get_or s.queue n 0 ≡ get_or s.queue n (get_or s.queue n 0) = get_or_default s.queue n 0 (get_or s.queue n 0) l in
    let more : IsSearch g others other from old t (suc n) = on_with g others other from old s t n u l at is (subst (λ (z : Seen). Grown others other (from + 1) s z (targets g u)) (sym e) (all_grown others other (from + 1) s (targets g u))) in
    let one : suc n ≡ n + 1 = omega arith in
    subst (λ (k : ℕ). IsSearch g others other from old t k) one more

pub ended : (g : Graph) (others : List ℕ) (other from : ℕ) (old : List ℕ) (s : Seen) (n : ℕ) → length s.queue ≤ n → IsSearch g others other from old s n → IsFound g others other from old s.marks
ended g others other from old s n l is = record {
  len = is.len;
  kept = is.kept;
  reached = is.reached;
  start = is.start;
  closed = λ u v m e o. elim (is.closed u v m e o) [
    | inl k ↦ k
    | inr k ↦ let f : is_among [] u ≡ true = subst (λ (q : List ℕ). is_among q u ≡ true) (drop_past n s.queue l) k in absurd (cc (f))
  ];
}

-- there are no more nodes to go on from than there were nodes without the mark
pub turn_counted : (others : List ℕ) (other mark count : ℕ) (g : Graph) (s t : Seen) (u : ℕ) → unmarked mark s.marks + length s.queue ≡ count → t ≡ seen_all others other mark s (targets g u) → unmarked mark t.marks + length t.queue ≡ count
turn_counted others other mark count g s t u c e = (subst (λ (z : Seen). Grown others other mark s z (targets g u)) (sym e) (all_grown others other mark s (targets g u))).count ∙ c

pub within_turn : (others : List ℕ) (other mark : ℕ) (g : Graph) (s t : Seen) (u n : ℕ) → n < length s.queue → t ≡ seen_all others other mark s (targets g u) → n + 1 ≤ length t.queue
within_turn others other mark g s t u n l e =
    let grown : Grown others other mark s t (targets g u) = subst (λ (z : Seen). Grown others other mark s z (targets g u)) (sym e) (all_grown others other mark s (targets g u)) in
    let size : length t.queue ≡ length s.queue + length grown.more = ap length grown.queue ∙ length_both s.queue grown.more in
    omega (arith, size, l)

pub on_ok : {A E : Type 0} (r : Result A E) {P Q : Type 0} → (P → Q) → OnOk r P → OnOk r Q
on_ok (Ok a) f h = f h
on_ok (Err e) f h = h
