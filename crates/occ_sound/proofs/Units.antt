-- What is told of a unit, and how its PROCs and FUNCTIONs run.
use Rattle.std.proofs.Common.{◌≡◌, ◌+◌, ◌<◌, ℕ, zero, suc, ap, sym, subst, ◌∙◌, refl, arith, List, [], ◌∷◌, ◌++◌, Option, Some, inl, inr, length}
use Rattle.std.specs.Prelude.{ℤ, slice_get, take}
use Rattle.occ_scope.specs.declared.meaning.Access.{Access}
use Rattle.occ_scope.specs.declared.meaning.Access.TheVariants as access
use Rattle.occ_scope.specs.declared.meaning.Meaning.{Meaning}
use Rattle.occ_scope.specs.declared.meaning.Meaning.TheVariants as meaning
use Rattle.occ_scope.specs.declared.meaning.ScopeEntry.{ScopeEntry}
use Rattle.occ_types.specs.declared.types.OccType.{OccType}
use Rattle.occ_typing.specs.declared.tree.TypedLine.{TypedLine, out-TypedLine}
use Rattle.occ_usage_conflicts.specs.Components.{joined}
use Rattle.occ_usage_lines.specs.Entering.{entry_bounds}
use Rattle.occ_usage_parts.specs.declared.part.Part.{Part}
use Rattle.occ_usage_values.specs.Bounds.{Env}
use Rattle.occ_usage_values.specs.declared.uses.Use.{Use}
use Rattle.occ_usage.specs.AbbreviationRule.{abbreviation_at, abbreviation_faults}
use Rattle.occ_usage.specs.Effect.{inner}
use Rattle.occ_usage.specs.Lines.{added, items_of}
use Rattle.occ_usage.specs.ParallelRule.{parallel_faults}
use Rattle.occ_usage.specs.Trees.{head_of, trees_of, under}
use Rattle.occ_usage.specs.Walk.{unit_reported}
use Rattle.occ_running.specs.Memory.{Cell, InCall, Reaches, Spot, Step, Thread}
use Rattle.occ_running.specs.Running.{Does, Gave, Outcome}
use Rattle.occ_running.specs.Runs.{RaceFree, Run}
use Rattle.occ_running.specs.Scopes.{Body, Clock, Element, Formal, Formula, Held, Other, Shown, Scope, Stored, Suits, SuitsBy, SuitsOne, Thing, formal_of, formals_of}
use Rattle.occ_running.specs.Works as works
use Rattle.occ_running.specs.Works.{InTurn, Pieces}
use Rattle.occ_sound.specs.Agreeing.{Extends, InPart, empty_scope, origin}
use Rattle.occ_sound.specs.Safe.{IsClean, IsSilent, IsVisible, Safe, Separate}
use Rattle.occ_sound.specs.Units
use Rattle.occ_sound.specs.Units.{ArePassedApart, HasNoVariable, IsHead, NeverRaces, Opens, body_work}
use Rattle.occ_sound.proofs.Calls.{has_entry}
use Rattle.occ_sound.proofs.Covers.{specified_bodies, specified_here}
use Rattle.occ_sound.proofs.Grades.{silent_before}
use Rattle.occ_sound.proofs.Keeping.{formula_same, no_body_passed, no_formula_passed, safe_more, visible_deeper}
use Rattle.occ_sound.proofs.Knowing.{good}
use Rattle.occ_sound.proofs.Lists.{get_below, get_cases, get_front, none_some, some_same, take_more}
use Rattle.occ_sound.proofs.Names.{agrees_length, formals_agree}
use Rattle.occ_sound.proofs.Races.{behind_specified, bodies_clean, clean_under, first_clean, free, head_known, items_ready}
use Rattle.occ_sound.proofs.Readying.{IsCleanLine}

-- lines in turn, in any scope
pub lines_free : (d : Scope) (t : Thread) (ls : List TypedLine) (r : Run) (o : Outcome) → Does d t (Pieces InTurn 0 (works.items_of ls)) r o → (env : Env) → Safe env d t → Separate d (joined (items_of (trees_of ls) env))
    → IsClean (trees_of ls) env env → RaceFree r
lines_free d t ls r o x env s sep clean = free d t (Pieces InTurn 0 (works.items_of ls)) r o x env (record { file = []; line = 0 }) s (items_of (trees_of ls) env, items_ready env ls clean, sep, tt)

-- ---- the outermost level

pub record Opened (e : Scope) (m : TypedLine) : Type 0 where
  pub env : Env
  pub safe : Safe env e []
  pub clean : IsCleanLine env m

opened : (lines : List TypedLine) (d e : Scope) (m : TypedLine) → Opens lines d e m → (outer env : Env) → Safe env d [] → IsClean (trees_of lines) outer env → Opened e m
opened _ _ _ _ (Units.first l ls d) outer env s c = record { env = env; safe = s; clean = first_clean l ls outer env c }
opened _ _ _ _ (Units.later l ls names d e m r xs h x next) outer env s c =
    let bs = added env (head_of l) (under l) (items_of (under l)) in
    opened ls (d ++ xs) e m next outer (env ++ bs)
    (safe_more env d [] bs xs s (good d [] (works.Specify l) r (Gave xs) x env s.agrees) (specified_here d [] l r xs x env s.agrees) (bodies_clean env l names xs h (first_clean l ls outer env c) (specified_bodies d [] l r xs x env s.agrees)))
    (behind_specified l ls outer env names h c)

safe_nothing : Safe [] [] []
safe_nothing =
    record {
      agrees = empty_scope;
      visible = λ n z h. none_some z h;
      bodies = λ n l h. none_some (Body l) h;
      formulas = λ n fs rs h. none_some (Formula fs rs) h;
    }

-- ---- called from outside

passed_thing : (xs : List Thing) (i : ℕ) (z : Thing) → slice_get (formals_of xs) i ≡ Some z → (y : Thing) × (slice_get xs i ≡ Some y) × (formal_of y ≡ z)
passed_thing [] i z h = none_some z h
passed_thing (x ∷ xs) zero z h = (x, refl, some_same (formal_of x) z h)
passed_thing (x ∷ xs) (suc i) z h = passed_thing xs i z h

-- what can be passed
abbrev IsPassable : Thing → Type 0
IsPassable (Element at n) = Unit {0}
IsPassable (Clock n) = Unit {0}
IsPassable (Held v n) = Unit {0}
IsPassable _ = ⊥

passable_by : (a : Access) (of : OccType) (y : Thing) → SuitsBy a of y → IsPassable y
passable_by a of (Element at n) h = tt
passable_by a of (Clock n) h = tt
passable_by a of (Held v n) h = tt
passable_by access.Variable of (Stored t) h = h
passable_by access.Formal of (Stored t) h = h
passable_by access.Value of (Stored t) h = h
passable_by access.Variable of (Formal at) h = h
passable_by access.Formal of (Formal at) h = h
passable_by access.Value of (Formal at) h = h
passable_by access.Variable of (Body l) h = h
passable_by access.Formal of (Body l) h = h
passable_by access.Value of (Body l) h = h
passable_by access.Variable of (Formula fs rs) h = h
passable_by access.Formal of (Formula fs rs) h = h
passable_by access.Value of (Formula fs rs) h = h
passable_by access.Variable of (Shown us2) h = h
passable_by access.Variable of Other h = h
passable_by access.Formal of (Shown us2) h = h
passable_by access.Formal of Other h = h
passable_by access.Value of (Shown us2) h = h
passable_by access.Value of Other h = h

passable_one : (m : Meaning) (y : Thing) → SuitsOne m y → IsPassable y
passable_one (meaning.Element w) y h = passable_by w.access w.of y h
passable_one (meaning.Procedure formals) y h = absurd h
passable_one (meaning.Function formals results) y h = absurd h
passable_one meaning.Faulty y h = absurd h
passable_one (meaning.Type of) y h = absurd h
passable_one (meaning.Protocol protocol) y h = absurd h

passable : (es : List ScopeEntry) (xs : List Thing) (i : ℕ) (y : Thing) → Suits es xs → slice_get xs i ≡ Some y → IsPassable y
passable [] [] i y h k = none_some y k
passable [] (x ∷ xs) i y h k = absurd h
passable (e ∷ es) [] i y h k = absurd h
passable (e ∷ es) (x ∷ xs) zero y h k = subst (λ (z : Thing). IsPassable z) (some_same x y k) (passable_one e.meaning x h.0)
passable (e ∷ es) (x ∷ xs) (suc i) y h k = passable es xs i y h.1 k

from_element : (m : ℕ) (y : Thing) (at : Spot) → IsPassable y → origin m (Some (formal_of y)) ≡ Some at → (n : Option ℤ) × (y ≡ Element at n)
from_element m (Element p n) at h k = (n, ap (λ (q : Spot). Element q n) (some_same p at k))
from_element m (Clock n) at h k = none_some at k
from_element m (Held v n) at h k = none_some at k
from_element m (Stored t) at h k = absurd h
from_element m (Formal p) at h k = absurd h
from_element m (Body l) at h k = absurd h
from_element m (Formula fs rs) at h k = absurd h
from_element m (Shown us2) at h k = absurd h
from_element m Other at h k = absurd h

abbrev NoFormal : Scope → Type 0
NoFormal d = (n : ℕ) (p : Spot) (steps : List Step) (c : Cell) → slice_get d n ≡ Some (Formal p) → Reaches p steps c → ⊥

no_origin : (d : Scope) (n : ℕ) (z : Thing) (at : Spot) (steps : List Step) (c : Cell) → HasNoVariable d → NoFormal d → slice_get d n ≡ Some z → origin n (Some z) ≡ Some at → Reaches at steps c → ⊥
no_origin d n (Stored t) at steps c none v h k r = none n t h
no_origin d n (Formal p) at steps c none v h k r = v n p steps c h (subst (λ (q : Spot). Reaches q steps c) (sym (some_same p at k)) r)
no_origin d n (Element p m) at steps c none v h k r = none_some at k
no_origin d n (Clock m) at steps c none v h k r = none_some at k
no_origin d n (Held w m) at steps c none v h k r = none_some at k
no_origin d n (Body l) at steps c none v h k r = none_some at k
no_origin d n (Formula fs rs) at steps c none v h k r = none_some at k
no_origin d n (Shown us2) at steps c none v h k r = none_some at k
no_origin d n Other at steps c none v h k r = none_some at k

-- a cell in a part of what the body sees is one of an element that was passed
cell_passed : (d : Scope) (es : List ScopeEntry) (xs : List Thing) (p : Part) (c : Cell) → HasNoVariable d → NoFormal d → Suits es xs → InPart (d ++ formals_of xs) p c
    → (i : ℕ) × (at : Spot) × (n : Option ℤ) × (steps : List Step) × (p.root ≡ length d + i) × (slice_get xs i ≡ Some (Element at n)) × Reaches at steps c
cell_passed d es xs p c none v suits h =
    let found = has_entry p.root (slice_get (d ++ formals_of xs) p.root) h.start h.is in
    elim (get_cases d (formals_of xs) p.root found.0 found.1) [
      | inl before ↦ absurd (no_origin d p.root found.0 h.start h.steps c none v before found.2 h.reaches)
      | inr later ↦ by_thing later.0 later.1 (passed_thing xs later.0 found.0 later.2) found.2
    ]
  where
    by_thing : {z : Thing} (i : ℕ) → p.root ≡ length d + i → (y : Thing) × (slice_get xs i ≡ Some y) × (formal_of y ≡ z) → origin p.root (Some z) ≡ Some h.start
        → (j : ℕ) × (at : Spot) × (n : Option ℤ) × (steps : List Step) × (p.root ≡ length d + j) × (slice_get xs j ≡ Some (Element at n)) × Reaches at steps c
    by_thing i e (y, at, same) o =
        let g = from_element p.root y h.start (passable es xs i y suits at) (ap (λ (w : Thing). origin p.root (Some w)) same ∙ o) in
        (i, h.start, g.0, h.steps, e, at ∙ ap Some g.1, h.reaches)

outside_separate : (d : Scope) (es : List ScopeEntry) (xs : List Thing) (us : List Use) → HasNoVariable d → NoFormal d → Suits es xs → ArePassedApart xs → Separate (d ++ formals_of xs) us
outside_separate d es xs us none v suits apart u w i j differ c x y =
    let a = cell_passed d es xs u.part c none v suits x in
    let e = cell_passed d es xs w.part c none v suits y in
    apart.apart a.0 e.0 a.1 e.1 a.2 e.2 a.3 e.3 c (λ same. differ (a.4 ∙ ap (λ (k : ℕ). length d + k) same ∙ sym e.4)) a.5 e.5 a.6 e.6

formal_outside : (es : List ScopeEntry) (xs : List Thing) (i : ℕ) (z : Thing) → Suits es xs → ArePassedApart xs → slice_get (formals_of xs) i ≡ Some z → IsVisible (InCall ∷ []) z
formal_outside es xs i (Stored t) suits apart h = let p = passed_thing xs i (Stored t) h in absurd (stored_not p.0 t (passable es xs i p.0 suits p.1) p.2) where
  stored_not : (y : Thing) (s : Thread) → IsPassable y → formal_of y ≡ Stored s → ⊥
  stored_not (Element at n) s g e = cc
  stored_not (Clock n) s g e = cc
  stored_not (Held v n) s g e = cc
  stored_not (Stored u) s g e = g
  stored_not (Formal at) s g e = g
  stored_not (Body l) s g e = g
  stored_not (Formula fs rs) s g e = g
  stored_not (Shown us2) s g e = g
  stored_not Other s g e = g
formal_outside es xs i (Formal at) suits apart h = λ steps c r.
    let p = passed_thing xs i (Formal at) h in
    let g = from_element 0 p.0 at (passable es xs i p.0 suits p.1) (ap (λ (w : Thing). origin 0 (Some w)) p.2) in
    let none : c.thread ≡ [] = apart.outside i at g.0 steps c (p.1 ∙ ap Some g.1) r in
    (subst (λ (t : Thread). Extends t (InCall ∷ [])) (sym none) tt, (let l : length c.thread ≡ 0 = ap length none in less l))
  where
    less : {n : ℕ} → n ≡ 0 → n < 1
    less e = omega (arith, e)
formal_outside es xs i (Element at n) suits apart h = tt
formal_outside es xs i (Clock n) suits apart h = tt
formal_outside es xs i (Held v n) suits apart h = tt
formal_outside es xs i (Body l) suits apart h = tt
formal_outside es xs i (Formula fs rs) suits apart h = tt
formal_outside es xs i (Shown us2) suits apart h = tt
formal_outside es xs i Other suits apart h = tt

safe_outside : (env : Env) (d : Scope) (es : List ScopeEntry) (xs : List Thing) → Safe env d [] → Suits es xs → ArePassedApart xs → Safe (env ++ entry_bounds es) (d ++ formals_of xs) (InCall ∷ [])
safe_outside env d es xs s suits apart =
    record {
      agrees = formals_agree env d es xs s.agrees suits;
      visible = λ m y h. elim (get_cases d (formals_of xs) m y h) [
        | inl before ↦ visible_deeper [] InCall y (s.visible m y before)
        | inr later ↦ formal_outside es xs later.0 y suits apart later.2
      ];
      bodies = λ m l h. elim (get_cases d (formals_of xs) m (Body l) h) [
        | inl before ↦ subst (λ (e : Env). IsClean (under l) (inner e (head_of l)) (inner e (head_of l))) (sym (front_same m (Body l) before)) (s.bodies m l before)
        | inr later ↦ absurd (no_body_passed es xs later.0 l suits later.2)
      ];
      formulas = λ m fs rs h. elim (get_cases d (formals_of xs) m (Formula fs rs) h) [
        | inl before ↦ formula_same (take m env) (take m (env ++ entry_bounds es)) (slice_get env m) (slice_get (env ++ entry_bounds es) m) fs rs (sym (front_same m (Formula fs rs) before)) (sym (front_got m (Formula fs rs) before)) (s.formulas m fs rs before)
        | inr later ↦ absurd (no_formula_passed es xs later.0 fs rs suits later.2)
      ];
    }
  where
    front_same : (m : ℕ) (y : Thing) → slice_get d m ≡ Some y → take m (env ++ entry_bounds es) ≡ take m env
    front_same m y h = let low : m < length d = get_below d m y h in let e : length env ≡ length d = agrees_length env d s.agrees in take_more env (entry_bounds es) m (omega (arith, low, e))

    front_got : (m : ℕ) (y : Thing) → slice_get d m ≡ Some y → slice_get (env ++ entry_bounds es) m ≡ slice_get env m
    front_got m y h = let low : m < length d = get_below d m y h in let e : length env ≡ length d = agrees_length env d s.agrees in get_front env (entry_bounds es) m (omega (arith, low, e))

-- no formal stands at the outermost level: of one each cell would lie in a thread shorter than none
no_formal : (env : Env) (d : Scope) → Safe env d [] → (n : ℕ) (p : Spot) (steps : List Step) (c : Cell) → slice_get d n ≡ Some (Formal p) → Reaches p steps c → ⊥
no_formal env d s n p steps c h r = let l : length c.thread < 0 = (s.visible n (Formal p) h steps c r).1 in omega (arith, l)

pub unit_free : (lines : List TypedLine) → IsSilent (parallel_faults lines) → IsSilent (abbreviation_faults lines) → (d : Scope) (l : TypedLine) → Opens lines [] d l → IsHead l → HasNoVariable d → (xs : List Thing) → Suits (out-TypedLine l).enters xs → ArePassedApart xs
    → NeverRaces d l xs
unit_free lines p a d l opens head none xs suits apart =
    let o = opened lines [] d l opens [] [] safe_nothing (record { parallel = p; abbreviations = silent_before (unit_reported abbreviation_at lines) a }) in
    let s = safe_outside o.env d (out-TypedLine l).enters xs o.safe suits apart in
    let c = clean_under o.env l (head_known l head) o.clean in
    let sep = outside_separate d (out-TypedLine l).enters xs (joined (items_of (under l) (inner o.env (head_of l)))) none (no_formal o.env d o.safe) suits apart in
    record {
      runs = λ r e x. lines_free (d ++ formals_of xs) (InCall ∷ []) (out-TypedLine l).under r e x (o.env ++ entry_bounds (out-TypedLine l).enters) s sep c;
      executions = λ before events x. lines_free (d ++ formals_of xs) (InCall ∷ []) (out-TypedLine l).under x.run x.outcome x.runs (o.env ++ entry_bounds (out-TypedLine l).enters) s sep c;
    }
