-- What a scope keeps while it is run in.
use Rattle.std.proofs.Common.{◌≡◌, ◌+◌, ◌<◌, ◌≤◌, ℕ, zero, suc, Bool, true, false, ap, sym, subst, ◌∙◌, refl, arith, List, [], ◌∷◌, ◌++◌, Option, Some, inl, inr, length}
use Rattle.std.specs.Prelude.{◌⊎◌, ◌==◌, slice_get, take, if◌then◌else◌}
use Rattle.occ_project.specs.declared.expanded.Location.{Location}
use Rattle.occ_scope.specs.declared.meaning.Access.{Access}
use Rattle.occ_scope.specs.declared.meaning.Access.TheVariants as access
use Rattle.occ_scope.specs.declared.meaning.Meaning.{Meaning}
use Rattle.occ_scope.specs.declared.meaning.Meaning.TheVariants as meaning
use Rattle.occ_scope.specs.declared.meaning.ScopeEntry.{ScopeEntry}
use Rattle.occ_types.specs.declared.types.OccType.{OccType}
use Rattle.occ_typing.specs.declared.tree.TypedLine.{TypedLine}
use Rattle.occ_typing_rules.specs.declared.expr.TypedActual.{TypedActual}
use Rattle.occ_typing_rules.specs.declared.expr.TypedExpr.{TypedExpr}
use Rattle.occ_usage_conflicts.specs.Bodies.{from_outside}
use Rattle.occ_usage_conflicts.specs.ParallelRule.{counts}
use Rattle.occ_usage_conflicts.specs.declared.rule.Least.TheVariants as least
use Rattle.occ_usage_lines.specs.Entering.{entry_bounds}
use Rattle.occ_usage_parts.specs.Parts.{all_sure, are_apart, overlap_of}
use Rattle.occ_usage_parts.specs.Selecting.{part_of}
use Rattle.occ_usage_parts.specs.declared.part.Overlap.TheVariants as o
use Rattle.occ_usage_parts.specs.declared.part.Part.{Part}
use Rattle.occ_usage_parts.specs.declared.place.SelectedPart.{SelectedPart}
use Rattle.occ_usage_values.specs.Bounds.{Env, body_of}
use Rattle.occ_usage_values.specs.Calls.{called_all}
use Rattle.occ_usage_values.specs.Views.{actual_views, places_of}
use Rattle.occ_usage_values.specs.declared.bound.Bound.{Bound}
use Rattle.occ_usage_values.specs.declared.uses.Use.{Use}
use Rattle.occ_usage.specs.Effect.{inner}
use Rattle.occ_usage.specs.Trees.{head_of, under}
use Rattle.occ_running.specs.Memory.{Cell, InCall, IsOneOf, Mark, Reaches, Spot, Step, Thread, Variable}
use Rattle.occ_running.specs.Scopes.{Body, Clock, Element, Formal, Formula, Held, Other, Shown, Scope, Stored, Suits, SuitsBy, SuitsOne, Thing, formal_of, formals_of}
use Rattle.occ_running.specs.Works.{pass}
use Rattle.occ_sound.specs.Agreeing.{Agrees, Extends, InPart, LiesAt, origin}
use Rattle.occ_sound.specs.Safe.{IsClean, IsCleanFormula, IsVisible, Safe, Separate}
use Rattle.occ_sound.proofs.Calls.{Comes, Mapped, has_entry, mapped, passed, seen}
use Rattle.occ_sound.proofs.Cells.{meeting, own_number}
use Rattle.occ_sound.proofs.Covers.{AreHere, IsHere, extends_itself, part_cases, root_below}
use Rattle.occ_sound.proofs.Knowing.{Good}
use Rattle.occ_sound.proofs.Lists.{get_behind, get_below, get_cases, get_front, get_taken, got_in, in_left, in_right, length_last, none_some, some_same, take_length, take_more, take_take}
use Rattle.occ_sound.proofs.Touching.{HasAlike}
use Rattle.occ_sound.proofs.Names.{Kept, agrees_length, formals_agree, stands}

-- ---- threads

pub extends_length : (s t : Thread) → Extends s t → length s ≤ length t
extends_length [] t h = omega arith
extends_length (k ∷ s) [] h = absurd h
extends_length (k ∷ s) (m ∷ t) h = let l : length s ≤ length t = extends_length s t h.1 in omega (arith, l)

pub extends_more : (s t more : Thread) → Extends s t → Extends s (t ++ more)
extends_more [] t more h = tt
extends_more (k ∷ s) [] more h = absurd h
extends_more (k ∷ s) (m ∷ t) more h = (h.0, extends_more s t more h.1)

one_deeper : (t u : Thread) (m : Mark) → length u < length t → length u < length (t ++ m ∷ [])
one_deeper t u m l = let e : length (t ++ m ∷ []) ≡ suc (length t) = length_last t m in omega (arith, l, e)

pub visible_deeper : (t : Thread) (m : Mark) (z : Thing) → IsVisible t z → IsVisible (t ++ m ∷ []) z
visible_deeper t m (Stored s) h = extends_more s t (m ∷ []) h
visible_deeper t m (Formal at) h = λ steps c r. let g = h steps c r in (extends_more c.thread t (m ∷ []) g.0, one_deeper t c.thread m g.1)
visible_deeper t m (Element at n) h = tt
visible_deeper t m (Clock n) h = tt
visible_deeper t m (Held v n) h = tt
visible_deeper t m (Body l) h = tt
visible_deeper t m (Formula fs rs) h = tt
visible_deeper t m (Shown us2) h = tt
visible_deeper t m Other h = tt

variable_thread : (n : ℕ) (s t : Thread) (at : Spot) (steps : List Step) (c : Cell) → Variable n s ≡ at → Reaches at steps c → Extends s t → Extends c.thread t
variable_thread n s t at steps c h r e =
    let reached : c ≡ record { root = n; thread = s; steps = steps } = subst (λ (z : Spot). Reaches z steps c) (sym h) r in
    subst (λ (z : Cell). Extends z.thread t) (sym reached) e

origin_visible : (t : Thread) (n : ℕ) (z : Thing) (at : Spot) (steps : List Step) (c : Cell) → IsVisible t z → origin n (Some z) ≡ Some at → Reaches at steps c → Extends c.thread t
origin_visible t n (Stored s) at steps c h e r = variable_thread n s t at steps c (some_same (Variable n s) at e) r h
origin_visible t n (Formal x) at steps c h e r = (h steps c (subst (λ (y : Spot). Reaches y steps c) (sym (some_same x at e)) r)).0
origin_visible t n (Element x m) at steps c h e r = none_some at e
origin_visible t n (Clock m) at steps c h e r = none_some at e
origin_visible t n (Held v m) at steps c h e r = none_some at e
origin_visible t n (Body l) at steps c h e r = none_some at e
origin_visible t n (Formula fs rs) at steps c h e r = none_some at e
origin_visible t n (Shown us2) at steps c h e r = none_some at e
origin_visible t n Other at steps c h e r = none_some at e

abbrev pub AllVisible : Scope → Thread → Type 0
AllVisible d t = (n : ℕ) (z : Thing) → slice_get d n ≡ Some z → IsVisible t z

-- what lies in a part lies where it can be seen
pub part_visible : (d : Scope) (t : Thread) (p : Part) (c : Cell) → AllVisible d t → InPart d p c → Extends c.thread t
part_visible d t p c v h =
    let found = has_entry p.root (slice_get d p.root) h.start h.is in
    origin_visible t p.root found.0 h.start h.steps c (v p.root found.0 found.1) found.2 h.reaches

pub lies_visible : (d : Scope) (t : Thread) (p : SelectedPart) (at : Spot) (steps : List Step) (c : Cell) → AllVisible d t → LiesAt d p at → Reaches at steps c → Extends c.thread t
lies_visible d t p at steps c v h r =
    let whole = h.follows steps c r in
    let found = has_entry p.root (slice_get d p.root) h.start h.is in
    origin_visible t p.root found.0 h.start whole.0 c (v p.root found.0 found.1) found.2 whole.1

-- ---- parts that share a cell count

count_case : (c d e : Bool) → c ≡ true → d ≡ false → counts least.May (if c then (if d then o.Apart else if e then o.Must else o.May) else o.Apart) ≡ true
count_case true true e h k = cc
count_case true false true h k = refl
count_case true false false h k = refl
count_case false d e h k = cc

pub count_meeting : (d : Scope) (p q : Part) (c : Cell) → p.root ≡ q.root → InPart d p c → InPart d q c → counts least.May (overlap_of p q) ≡ true
count_meeting d p q c e h k = count_case (p.root == q.root) (are_apart p.selectors q.selectors) (all_sure p.selectors q.selectors) (own_number p.root q.root e) (meeting d p q c e h k)

apart_not_counted : (p q : Part) → overlap_of p q ≡ o.Apart → counts least.May (overlap_of p q) ≡ true → ⊥
apart_not_counted p q h k = let e : false ≡ true = ap (counts least.May) (sym h) ∙ k in cc

-- ---- separate

pub separate_in : (d : Scope) (us vs : List Use) → ((u : Use) → IsOneOf vs u → IsOneOf us u) → Separate d us → Separate d vs
separate_in d us vs f h u v i j differ c x y = h u v (f u i) (f v j) differ c x y

pub separate_alike : (d : Scope) (us vs : List Use) → ((u : Use) → IsOneOf vs u → HasAlike us u) → Separate d us → Separate d vs
separate_alike d us vs f h u v i j differ c x y =
    let a = f u i in
    let b = f v j in
    h a.u b.u a.among b.among (λ e. differ (ap (λ (p : Part). p.root) (sym a.part) ∙ e ∙ ap (λ (p : Part). p.root) b.part)) c
    (subst (λ (p : Part). InPart d p c) (sym a.part) x) (subst (λ (p : Part). InPart d p c) (sym b.part) y)

pub separate_left : (d : Scope) (us vs : List Use) → Separate d (us ++ vs) → Separate d us
separate_left d us vs h = separate_in d (us ++ vs) us (λ u i. in_left u us vs i) h

pub separate_right : (d : Scope) (us vs : List Use) → Separate d (us ++ vs) → Separate d vs
separate_right d us vs h = separate_in d (us ++ vs) vs (λ u i. in_right u us vs i) h

cell_root : (n : ℕ) (t : Thread) (steps : List Step) (c : Cell) → Reaches (Variable n t) steps c → c.root ≡ n
cell_root n t steps c h = ap (λ (z : Cell). z.root) h

cell_thread : (n : ℕ) (t : Thread) (steps : List Step) (c : Cell) → Reaches (Variable n t) steps c → c.thread ≡ t
cell_thread n t steps c h = ap (λ (z : Cell). z.thread) h

-- a cell of a variable that is declared here, and one of another name that stood before
other_cell : (t : Thread) (n m : ℕ) (z : Thing) (at : Spot) (steps : List Step) (c : Cell) → IsVisible t z → origin n (Some z) ≡ Some at → Reaches at steps c → n < m → c.root ≡ m → c.thread ≡ t → ⊥
other_cell t n m (Stored s) at steps c v e r l k q =
    let number : c.root ≡ n = cell_root n s steps c (subst (λ (y : Spot). Reaches y steps c) (sym (some_same (Variable n s) at e)) r) in omega (arith, number, l, k)
other_cell t n m (Formal x) at steps c v e r l k q =
    let less : length c.thread < length t = (v steps c (subst (λ (y : Spot). Reaches y steps c) (sym (some_same x at e)) r)).1 in
    let same : length c.thread ≡ length t = ap length q in
    omega (arith, less, same)
other_cell t n m (Element x j) at steps c v e r l k q = none_some at e
other_cell t n m (Clock j) at steps c v e r l k q = none_some at e
other_cell t n m (Held w j) at steps c v e r l k q = none_some at e
other_cell t n m (Body x) at steps c v e r l k q = none_some at e
other_cell t n m (Formula fs rs) at steps c v e r l k q = none_some at e
other_cell t n m (Shown us2) at steps c v e r l k q = none_some at e
other_cell t n m Other at steps c v e r l k q = none_some at e

before_and_here : (d : Scope) (t : Thread) (p q : Part) (c : Cell) (i : ℕ) (at : Spot) (steps : List Step) → AllVisible d t → InPart d p c → q.root ≡ length d + i → at ≡ Variable q.root t → Reaches at steps c → ⊥
before_and_here d t p q c i at steps v h e own r =
    let found = has_entry p.root (slice_get d p.root) h.start h.is in
    let here : Reaches (Variable q.root t) steps c = subst (λ (y : Spot). Reaches y steps c) own r in
    let low : p.root < length d = get_below d p.root found.0 found.1 in
    other_cell t p.root q.root found.0 h.start h.steps c (v p.root found.0 found.1) found.2 h.reaches (omega (arith, low, e)) (cell_root q.root t steps c here) (cell_thread q.root t steps c here)

-- in the scope of what a line of specification, or a replicator, brings
pub separate_more : (d : Scope) (t : Thread) (us : List Use) (xs : List Thing) → AllVisible d t → AreHere t xs → Separate d us → Separate (d ++ xs) us
separate_more d t us xs v here h u w i j differ c y z = elim (part_cases d xs u.part c y) [
  | inl before ↦ elim (part_cases d xs w.part c z) [
    | inl other ↦ h u w i j differ c before other
    | inr last ↦ before_and_here d t u.part w.part c last.0 last.4 last.6 v before last.2 (here last.1 (got_in xs last.0 last.1 last.3) w.part.root last.4 last.5) last.7
  ]
  | inr last ↦ elim (part_cases d xs w.part c z) [
    | inl before ↦ before_and_here d t w.part u.part c last.0 last.4 last.6 v before last.2 (here last.1 (got_in xs last.0 last.1 last.3) u.part.root last.4 last.5) last.7
    | inr other ↦ both_here last.4 last.6 other.4 other.6 (here last.1 (got_in xs last.0 last.1 last.3) u.part.root last.4 last.5) last.7 (here other.1 (got_in xs other.0 other.1 other.3) w.part.root other.4 other.5) other.7
  ]
]
  where
    both_here : (a : Spot) (ts : List Step) (e : Spot) (ss : List Step) → a ≡ Variable u.part.root t → Reaches a ts c → e ≡ Variable w.part.root t → Reaches e ss c → ⊥
    both_here a ts e ss k r l q =
        differ (sym (cell_root u.part.root t ts c (subst (λ (y : Spot). Reaches y ts c) k r)) ∙ cell_root w.part.root t ss c (subst (λ (y : Spot). Reaches y ss c) l q))

-- ---- what is brought can be seen

number_of : Spot → ℕ
number_of (Variable n t) = n
number_of _ = 0

two_numbers : (at : Spot) (t : Thread) → at ≡ Variable 0 t → at ≡ Variable 1 t → ⊥
unfolding number_of
two_numbers at t h k = zero_one (ap number_of (sym h ∙ k)) where
  zero_one : zero ≡ suc zero → ⊥
  zero_one e = grind (arith, e)

thread_in : Spot → Thread
thread_in (Variable n t) = t
thread_in _ = []

same_thread : (n : ℕ) (s t : Thread) → Variable n s ≡ Variable n t → s ≡ t
unfolding thread_in
same_thread n s t h = ap thread_in h

here_visible : (t : Thread) (z : Thing) → IsHere t z → IsVisible t z
here_visible t (Stored s) h = subst (λ (u : Thread). Extends u t) (sym (same_thread 0 s t (h 0 (Variable 0 s) refl))) (extends_itself t)
here_visible t (Formal at) h = absurd (two_numbers at t (h 0 at refl) (h 1 at refl))
here_visible t (Element at n) h = tt
here_visible t (Clock n) h = tt
here_visible t (Held v n) h = tt
here_visible t (Body l) h = tt
here_visible t (Formula fs rs) h = tt
here_visible t (Shown us2) h = tt
here_visible t Other h = tt

pub more_visible : (d : Scope) (t : Thread) (xs : List Thing) → AllVisible d t → AreHere t xs → AllVisible (d ++ xs) t
more_visible d t xs v here n z h = elim (get_cases d xs n z h) [
  | inl before ↦ v n z before
  | inr last ↦ here_visible t z (here z (got_in xs last.0 z last.2))
]

pub deeper_visible : (d : Scope) (t : Thread) (m : Mark) → AllVisible d t → AllVisible d (t ++ m ∷ [])
deeper_visible d t m v n z h = visible_deeper t m z (v n z h)

-- ---- safe scopes

-- the bodies among what is brought
abbrev pub BodiesClean : Env → List Bound → List Thing → Type 0
BodiesClean env bs xs =
    ((i : ℕ) (l : TypedLine) → slice_get xs i ≡ Some (Body l) → IsClean (under l) (inner (env ++ take i bs) (head_of l)) (inner (env ++ take i bs) (head_of l)))
    × ((i : ℕ) (fs : List ScopeEntry) (rs : List TypedExpr) → slice_get xs i ≡ Some (Formula fs rs) → IsCleanFormula (env ++ take i bs) (body_of (slice_get bs i)) fs rs)

take_behind : {X : Type 0} (xs ys : List X) (i : ℕ) → take (length xs + i) (xs ++ ys) ≡ xs ++ take i ys
take_behind [] ys i = let e : 0 + i ≡ i = omega arith in ap (λ (n : ℕ). take n ys) e
take_behind (x ∷ xs) ys i = let e : suc (length xs) + i ≡ suc (length xs + i) = omega arith in ap (λ (n : ℕ). take n (x ∷ (xs ++ ys))) e ∙ ap (λ (zs : List _). x ∷ zs) (take_behind xs ys i)

pub formula_same : (e f : Env) (x y : Option Bound) (fs : List ScopeEntry) (rs : List TypedExpr) → e ≡ f → x ≡ y → IsCleanFormula e (body_of x) fs rs → IsCleanFormula f (body_of y) fs rs
formula_same e f x y fs rs h k c = subst (λ (g : Env). IsCleanFormula g (body_of y) fs rs) h (subst (λ (z : Option Bound). IsCleanFormula e (body_of z) fs rs) k c)

pub safe_more : (env : Env) (d : Scope) (t : Thread) (bs : List Bound) (xs : List Thing) → Safe env d t → Agrees (env ++ bs) (d ++ xs) → AreHere t xs → BodiesClean env bs xs → Safe (env ++ bs) (d ++ xs) t
safe_more env d t bs xs s a here clean =
    record {
      agrees = a;
      visible = more_visible d t xs s.visible here;
      bodies = λ n l h. elim (get_cases d xs n (Body l) h) [
        | inl before ↦ subst (λ (e : Env). IsClean (under l) (inner e (head_of l)) (inner e (head_of l))) (sym (front_same n (Body l) before)) (s.bodies n l before)
        | inr last ↦ subst (λ (e : Env). IsClean (under l) (inner e (head_of l)) (inner e (head_of l))) (sym (behind_same n last.0 last.1)) (clean.0 last.0 l last.2)
      ];
      formulas = λ n fs rs h. elim (get_cases d xs n (Formula fs rs) h) [
        | inl before ↦ formula_same (take n env) (take n (env ++ bs)) (slice_get env n) (slice_get (env ++ bs) n) fs rs (sym (front_same n (Formula fs rs) before)) (sym (front_got n (Formula fs rs) before)) (s.formulas n fs rs before)
        | inr last ↦ formula_same (env ++ take last.0 bs) (take n (env ++ bs)) (slice_get bs last.0) (slice_get (env ++ bs) n) fs rs (sym (behind_same n last.0 last.1)) (sym (behind_got n last.0 last.1)) (clean.1 last.0 fs rs last.2)
      ];
    }
  where
    front_same : (n : ℕ) (z : Thing) → slice_get d n ≡ Some z → take n (env ++ bs) ≡ take n env
    front_same n z h = let low : n < length d = get_below d n z h in let e : length env ≡ length d = agrees_length env d s.agrees in take_more env bs n (omega (arith, low, e))

    front_got : (n : ℕ) (z : Thing) → slice_get d n ≡ Some z → slice_get (env ++ bs) n ≡ slice_get env n
    front_got n z h = let low : n < length d = get_below d n z h in let e : length env ≡ length d = agrees_length env d s.agrees in get_front env bs n (omega (arith, low, e))

    behind_got : (n i : ℕ) → n ≡ length d + i → slice_get (env ++ bs) n ≡ slice_get bs i
    behind_got n i h =
        let e : length env ≡ length d = agrees_length env d s.agrees in
        let same : n ≡ length env + i = omega (arith, h, e) in
        ap (λ (k : ℕ). slice_get (env ++ bs) k) same ∙ get_behind env bs i

    behind_same : (n i : ℕ) → n ≡ length d + i → take n (env ++ bs) ≡ env ++ take i bs
    behind_same n i h =
        let e : length env ≡ length d = agrees_length env d s.agrees in
        let same : n ≡ length env + i = omega (arith, h, e) in
        ap (λ (k : ℕ). take k (env ++ bs)) same ∙ take_behind env bs i

pub safe_deeper : (env : Env) (d : Scope) (t : Thread) (m : Mark) → Safe env d t → Safe env d (t ++ m ∷ [])
safe_deeper env d t m s = record { agrees = s.agrees; visible = deeper_visible d t m s.visible; bodies = s.bodies; formulas = s.formulas }

-- ---- calls

-- two actuals of one root are apart, and so are an actual and what the body uses of what stands round it
pub record NoAlias (n : ℕ) (ps : List (Option SelectedPart)) (us : List Use) : Type 0 where
  pub actuals : (i j : ℕ) (p q : SelectedPart) → i < j → slice_get ps i ≡ Some (Some p) → slice_get ps j ≡ Some (Some q) → overlap_of (part_of p) (part_of q) ≡ o.Apart
  pub free : (i : ℕ) (p : SelectedPart) (u : Use) → slice_get ps i ≡ Some (Some p) → IsOneOf us u → u.part.root < n → overlap_of (part_of p) u.part ≡ o.Apart

free_and_passed : (d : Scope) (n : ℕ) (ps : List (Option SelectedPart)) (us : List Use) (u : Use) (w : Part) (c : Cell) (i : ℕ) (p : SelectedPart) → NoAlias n ps us → IsOneOf us u → u.part.root < n → w ≡ u.part → InPart d w c
    → slice_get ps i ≡ Some (Some p) → InPart d (part_of p) c → p.root ≡ w.root → ⊥
free_and_passed d n ps us u w c i p quiet among low e x at y same =
    apart_not_counted (part_of p) u.part (quiet.free i p u at among low) (count_meeting d (part_of p) u.part c (same ∙ ap (λ (z : Part). z.root) e) y (subst (λ (z : Part). InPart d z c) e x))

both_passed : (d : Scope) (n : ℕ) (ps : List (Option SelectedPart)) (us : List Use) (c : Cell) (i j : ℕ) (p q : SelectedPart) → NoAlias n ps us → i < j → slice_get ps i ≡ Some (Some p) → slice_get ps j ≡ Some (Some q)
    → InPart d (part_of p) c → InPart d (part_of q) c → p.root ≡ q.root → ⊥
both_passed d n ps us c i j p q quiet l a b x y same = apart_not_counted (part_of p) (part_of q) (quiet.actuals i j p q l a b) (count_meeting d (part_of p) (part_of q) c same x y)

below_or_above : (i j n a b : ℕ) → a ≡ n + i → b ≡ n + j → (a ≡ b → ⊥) → (i < j) ⊎ (j < i)
below_or_above i j n a b h k differ = grind (arith, h, k, differ)

pub same_number : (m n : ℕ) → (m == n) ≡ true → m ≡ n
same_number m n e = grind (arith, e)

pub other_number : (m n : ℕ) → (m == n) ≡ false → m ≡ n → ⊥
other_number m n e f = grind (arith, e, f)

same_roots : (env : Env) (d : Scope) (n : ℕ) (xs : List TypedActual) (us : List Use) (u v w x : Use) (c : Cell) → NoAlias n (places_of (actual_views xs) env) us → (u.part.root ≡ v.part.root → ⊥) → IsOneOf us u → IsOneOf us v
    → InPart d w.part c → InPart d x.part c → w.part.root ≡ x.part.root → Comes env d n xs u w c → Comes env d n xs v x c → ⊥
same_roots env d n xs us u v w x c quiet differ i j y z same (inl a) (inl b) = differ (ap (λ (s : Part). s.root) (sym a.1) ∙ same ∙ ap (λ (s : Part). s.root) b.1)
same_roots env d n xs us u v w x c quiet differ i j y z same (inl a) (inr b) =
    free_and_passed d n (places_of (actual_views xs) env) us u w.part c b.0 b.1 quiet i a.0 a.1 y b.3 b.4 (sym b.5 ∙ sym same)
same_roots env d n xs us u v w x c quiet differ i j y z same (inr a) (inl b) =
    free_and_passed d n (places_of (actual_views xs) env) us v x.part c a.0 a.1 quiet j b.0 b.1 z a.3 a.4 (sym a.5 ∙ same)
same_roots env d n xs us u v w x c quiet differ i j y z same (inr a) (inr b) =
    elim (below_or_above a.0 b.0 n u.part.root v.part.root a.2 b.2 differ) [
      | inl l ↦ both_passed d n (places_of (actual_views xs) env) us c a.0 b.0 a.1 b.1 quiet l a.3 b.3 a.4 b.4 (sym a.5 ∙ same ∙ b.5)
      | inr l ↦ both_passed d n (places_of (actual_views xs) env) us c b.0 a.0 b.1 a.1 quiet l b.3 a.3 b.4 a.4 (sym b.5 ∙ sym same ∙ a.5)
    ]

by_roots : (env : Env) (d : Scope) (line : Location) (n : ℕ) (xs : List TypedActual) (us : List Use) (u v : Use) (c : Cell) → NoAlias n (places_of (actual_views xs) env) us → Separate d (called_all line n (places_of (actual_views xs) env) us)
    → (u.part.root ≡ v.part.root → ⊥) → (m : Mapped env d line n xs us u c) (k : Mapped env d line n xs us v c) → (b : Bool) → (m.w.part.root == k.w.part.root) ≡ b → ⊥
by_roots env d line n xs us u v c quiet sep differ m k true e =
    same_roots env d n xs us u v m.w k.w c quiet differ m.source k.source m.cell k.cell (same_number m.w.part.root k.w.part.root e) m.comes k.comes
by_roots env d line n xs us u v c quiet sep differ m k false e = sep m.w k.w m.among k.among (other_number m.w.part.root k.w.part.root e) c m.cell k.cell

-- of a body with these uses, which are seen from outside
pub separate_called : (env : Env) (d : Scope) (line place : Location) (n m : ℕ) (xs : List TypedActual) (zs : List Thing) (us : List Use) → Kept (take n d) d → length (take n d) ≡ n → Good env d (pass xs) zs
    → m ≡ length (take n d ++ formals_of zs) → body_of (slice_get env n) ≡ Rattle.occ_usage_conflicts.specs.Bodies.body_uses n m place us
    → NoAlias n (places_of (actual_views xs) env) (body_of (slice_get env n)) → Separate d (called_all line n (places_of (actual_views xs) env) (body_of (slice_get env n))) → Separate (take n d ++ formals_of zs) us
separate_called env d line place n m xs zs us kept len g size same quiet sep u v i j differ c x y =
    let a = mapped env d line n xs zs (body_of (slice_get env n)) (from_outside n place u) c kept len g (known u i x) x in
    let e = mapped env d line n xs zs (body_of (slice_get env n)) (from_outside n place v) c kept len g (known v j y) y in
    by_roots env d line n xs (body_of (slice_get env n)) (from_outside n place u) (from_outside n place v) c quiet sep differ a e (a.w.part.root == e.w.part.root) refl
  where
    known : (w : Use) → IsOneOf us w → InPart (take n d ++ formals_of zs) w.part c → IsOneOf (body_of (slice_get env n)) (from_outside n place w)
    known w k z =
        let low : w.part.root < length (take n d ++ formals_of zs) = root_below (take n d ++ formals_of zs) w.part c z in
        subst (λ (ws : List Use). IsOneOf ws (from_outside n place w)) (sym same) (seen n m place us w k (omega (arith, low, size)))

-- a formal is seen in its body
formal_visible : (env : Env) (d : Scope) (t : Thread) (xs : List TypedActual) (zs : List Thing) (i : ℕ) (z : Thing) → AllVisible d t → Good env d (pass xs) zs → slice_get (formals_of zs) i ≡ Some z → IsVisible (t ++ InCall ∷ []) z
formal_visible env d t xs zs i (Stored s) v g h =
    let p = passed env d xs zs g i 0 (Stored s) (Variable 0 s) h refl in
    extends_more s t (InCall ∷ []) (lies_visible d t p.p (Variable 0 s) [] (record { root = 0; thread = s; steps = [] }) v p.lies refl)
formal_visible env d t xs zs i (Formal at) v g h = λ steps c r.
    let p = passed env d xs zs g i 0 (Formal at) at h refl in
    let shown : Extends c.thread t = lies_visible d t p.p at steps c v p.lies r in
    (extends_more c.thread t (InCall ∷ []) shown, (let l : length c.thread ≤ length t = extends_length c.thread t shown in let e : length (t ++ InCall ∷ []) ≡ suc (length t) = length_last t InCall in omega (arith, l, e)))
formal_visible env d t xs zs i (Element at n) v g h = tt
formal_visible env d t xs zs i (Clock n) v g h = tt
formal_visible env d t xs zs i (Held w n) v g h = tt
formal_visible env d t xs zs i (Body l) v g h = tt
formal_visible env d t xs zs i (Formula fs rs) v g h = tt
formal_visible env d t xs zs i (Shown us2) v g h = tt
formal_visible env d t xs zs i Other v g h = tt

-- no body is passed
no_body_by : (a : Access) (of : OccType) (m : TypedLine) → SuitsBy a of (Body m) → ⊥
no_body_by access.Variable of m h = h
no_body_by access.Formal of m h = h
no_body_by access.Value of m h = h

no_formula_by : (a : Access) (of : OccType) (fs : List ScopeEntry) (rs : List TypedExpr) → SuitsBy a of (Formula fs rs) → ⊥
no_formula_by access.Variable of fs rs h = h
no_formula_by access.Formal of fs rs h = h
no_formula_by access.Value of fs rs h = h

no_body_one : (m : Meaning) (x : TypedLine) → SuitsOne m (Body x) → ⊥
no_body_one (meaning.Element w) x h = no_body_by w.access w.of x h
no_body_one (meaning.Procedure formals) x h = h
no_body_one (meaning.Function formals results) x h = h
no_body_one meaning.Faulty x h = h
no_body_one (meaning.Type of) x h = h
no_body_one (meaning.Protocol protocol) x h = h

no_formula_one : (m : Meaning) (fs : List ScopeEntry) (rs : List TypedExpr) → SuitsOne m (Formula fs rs) → ⊥
no_formula_one (meaning.Element w) fs rs h = no_formula_by w.access w.of fs rs h
no_formula_one (meaning.Procedure formals) fs rs h = h
no_formula_one (meaning.Function formals results) fs rs h = h
no_formula_one meaning.Faulty fs rs h = h
no_formula_one (meaning.Type of) fs rs h = h
no_formula_one (meaning.Protocol protocol) fs rs h = h

body_one : (m : Meaning) (z : Thing) (l : TypedLine) → SuitsOne m z → formal_of z ≡ Body l → ⊥
body_one m (Body x) l h e = no_body_one m x h
body_one m (Stored t) l h e = cc
body_one m (Formal at) l h e = cc
body_one m (Element at n) l h e = cc
body_one m (Clock n) l h e = cc
body_one m (Held v n) l h e = cc
body_one m (Formula fs rs) l h e = cc
body_one m (Shown us2) l h e = cc
body_one m Other l h e = cc

formula_one : (m : Meaning) (z : Thing) (fs : List ScopeEntry) (rs : List TypedExpr) → SuitsOne m z → formal_of z ≡ Formula fs rs → ⊥
formula_one m (Formula gs ss) fs rs h e = no_formula_one m gs ss h
formula_one m (Stored t) fs rs h e = cc
formula_one m (Formal at) fs rs h e = cc
formula_one m (Element at n) fs rs h e = cc
formula_one m (Clock n) fs rs h e = cc
formula_one m (Held v n) fs rs h e = cc
formula_one m (Body x) fs rs h e = cc
formula_one m (Shown us2) fs rs h e = cc
formula_one m Other fs rs h e = cc

pub no_body_passed : (es : List ScopeEntry) (zs : List Thing) (i : ℕ) (l : TypedLine) → Suits es zs → slice_get (formals_of zs) i ≡ Some (Body l) → ⊥
no_body_passed [] [] i l h k = cc
no_body_passed [] (z ∷ zs) i l h k = h
no_body_passed (f ∷ fs) [] i l h k = h
no_body_passed (f ∷ fs) (z ∷ zs) zero l h k = body_one f.meaning z l h.0 (some_same (formal_of z) (Body l) k)
no_body_passed (f ∷ fs) (z ∷ zs) (suc i) l h k = no_body_passed fs zs i l h.1 k

pub no_formula_passed : (es : List ScopeEntry) (zs : List Thing) (i : ℕ) (gs : List ScopeEntry) (rs : List TypedExpr) → Suits es zs → slice_get (formals_of zs) i ≡ Some (Formula gs rs) → ⊥
no_formula_passed [] [] i gs rs h k = cc
no_formula_passed [] (z ∷ zs) i gs rs h k = h
no_formula_passed (f ∷ fs) [] i gs rs h k = h
no_formula_passed (f ∷ fs) (z ∷ zs) zero gs rs h k = formula_one f.meaning z gs rs h.0 (some_same (formal_of z) (Formula gs rs) k)
no_formula_passed (f ∷ fs) (z ∷ zs) (suc i) gs rs h k = no_formula_passed fs zs i gs rs h.1 k

-- in the scope of a body with its formals
pub safe_called : (env : Env) (d : Scope) (t : Thread) (n : ℕ) (z : Thing) (es : List ScopeEntry) (xs : List TypedActual) (zs : List Thing) → Safe env d t → slice_get d n ≡ Some z → Good env d (pass xs) zs → Suits es zs
    → Safe (take n env ++ entry_bounds es) (take n d ++ formals_of zs) (t ++ InCall ∷ [])
safe_called env d t n z es xs zs s at g suits =
    let st = stands env d s.agrees n z at in
    let high : n < length d = get_below d n z at in
    let sizes : length env ≡ length d = agrees_length env d s.agrees in
    let cut : length (take n d) ≡ n = take_length n d (omega (arith, high)) in
    let cut_env : length (take n env) ≡ n = take_length n env (omega (arith, high, sizes)) in
    record {
      agrees = formals_agree (take n env) (take n d) es zs st.agrees suits;
      visible = λ m y h. elim (get_cases (take n d) (formals_of zs) m y h) [
        | inl before ↦ visible_deeper t InCall y (s.visible m y (st.kept m y before))
        | inr later ↦ formal_visible env d t xs zs later.0 y s.visible g later.2
      ];
      bodies = λ m l h. elim (get_cases (take n d) (formals_of zs) m (Body l) h) [
        | inl before ↦ subst (λ (e : Env). IsClean (under l) (inner e (head_of l)) (inner e (head_of l))) (sym (front_same m (Body l) cut cut_env before)) (s.bodies m l (st.kept m (Body l) before))
        | inr later ↦ absurd (no_body_passed es zs later.0 l suits later.2)
      ];
      formulas = λ m fs rs h. elim (get_cases (take n d) (formals_of zs) m (Formula fs rs) h) [
        | inl before ↦ formula_same (take m env) (take m (take n env ++ entry_bounds es)) (slice_get env m) (slice_get (take n env ++ entry_bounds es) m) fs rs (sym (front_same m (Formula fs rs) cut cut_env before)) (sym (front_got m (Formula fs rs) cut cut_env before)) (s.formulas m fs rs (st.kept m (Formula fs rs) before))
        | inr later ↦ absurd (no_formula_passed es zs later.0 fs rs suits later.2)
      ];
    }
  where
    front_same : (m : ℕ) (y : Thing) → length (take n d) ≡ n → length (take n env) ≡ n → slice_get (take n d) m ≡ Some y → take m (take n env ++ entry_bounds es) ≡ take m env
    front_same m y cut cut_env h =
        let low : m < length (take n d) = get_below (take n d) m y h in
        take_more (take n env) (entry_bounds es) m (omega (arith, low, cut, cut_env)) ∙ take_take env m n (omega (arith, low, cut))

    front_got : (m : ℕ) (y : Thing) → length (take n d) ≡ n → length (take n env) ≡ n → slice_get (take n d) m ≡ Some y → slice_get (take n env ++ entry_bounds es) m ≡ slice_get env m
    front_got m y cut cut_env h =
        let low : m < length (take n d) = get_below (take n d) m y h in
        get_front (take n env) (entry_bounds es) m (omega (arith, low, cut, cut_env)) ∙ get_taken env n m (omega (arith, low, cut))
