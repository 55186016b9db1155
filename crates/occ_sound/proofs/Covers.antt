-- Each event of a run lies in a use of what is run.
use Rattle.std.proofs.Common.{◌≡◌, ◌+◌, ◌<◌, ℕ, zero, suc, true, false, ap, sym, subst, ◌∙◌, refl, arith, List, [], ◌∷◌, ◌++◌, Option, Some, None, inl, inr, length}
use Rattle.std.specs.Prelude.{◌+ℤ◌, int_le, ℤ, pos, ◌⊎◌, slice_get, take}
use Rattle.occ_project.specs.declared.expanded.Location.{Location}
use Rattle.occ_scope.specs.declared.meaning.ScopeEntry.{ScopeEntry}
use Rattle.occ_types.specs.declared.interface.Export.{Export}
use Rattle.occ_types.specs.declared.interface.Interface.{Interface}
use Rattle.occ_types.specs.declared.interface.UseKind.TheVariants as kind
use Rattle.occ_types.specs.declared.value.Value.{Value}
use Rattle.occ_types.specs.declared.value.Value.TheVariants as v
use Rattle.occ_scope.specs.declared.meaning.Access.{Access}
use Rattle.occ_scope.specs.declared.meaning.Access.TheVariants as access
use Rattle.occ_scope.specs.declared.meaning.Meaning.{Meaning}
use Rattle.occ_scope.specs.declared.meaning.Meaning.TheVariants as meaning
use Rattle.occ_types.specs.declared.types.OccType.{OccType}
use Rattle.occ_typing.specs.declared.tree.TypedLine.{TypedLine, out-TypedLine}
use Rattle.occ_typing_lines.specs.declared.tree.BlockKind.TheVariants as block
use Rattle.occ_typing_lines.specs.declared.tree.TypedForm.{TypedForm}
use Rattle.occ_typing_lines.specs.declared.tree.TypedForm.TheVariants as form
use Rattle.occ_typing_rules.specs.declared.expr.Selector.{out-Selector}
use Rattle.occ_typing_rules.specs.declared.expr.Selector.TheOpen.{TypedExpr-F}
use Rattle.occ_typing_rules.specs.declared.expr.TypedActual.{TypedActual}
use Rattle.occ_typing_rules.specs.declared.expr.TypedElement.{TypedElement, out-TypedElement}
use Rattle.occ_typing_rules.specs.declared.expr.TypedExpr.{TypedExpr, out-TypedExpr}
use Rattle.occ_typing_statements.specs.declared.replicator_tree.KnownReplicator.{KnownReplicator}
use Rattle.occ_typing_statements.specs.declared.replicator_tree.TypedReplicator.{TypedReplicator}
use Rattle.occ_usage_conflicts.specs.Bodies.{body_uses, from_outside}
use Rattle.occ_usage_conflicts.specs.Components.{joined}
use Rattle.occ_usage_lines.specs.Entering.{exported_use, exported_uses, entry_bounds}
use Rattle.occ_usage_lines.specs.Forms.{each_uses, form_uses}
use Rattle.occ_usage_parts.specs.declared.part.Part.{Part}
use Rattle.occ_usage_parts.specs.declared.place.SelectedPart.{SelectedPart}
use Rattle.occ_usage_values.specs.Bounds.{Env, body_of}
use Rattle.occ_usage_values.specs.Calls.{called_all}
use Rattle.occ_usage_values.specs.Views.{ExprView, actual_views, actuals_uses, expr_view, element_view, places_of}
use Rattle.occ_usage_values.specs.declared.bound.Bound.{Bound}
use Rattle.occ_usage_values.specs.declared.bound.Bound.TheVariants as b
use Rattle.occ_usage_values.specs.declared.uses.Use.{Use}
use Rattle.occ_usage.specs.Effect.{is_body}
use Rattle.occ_usage.specs.Lines.{added, components, components_by, items_of, rounds_to}
use Rattle.occ_usage.specs.Trees.{head_of, trees_of, under}
use Rattle.occ_running.specs.Exports.{IsPlace, IsShown, IsStep, LeadInto}
use Rattle.occ_types.specs.declared.interface.FormalUse.{FormalUse}
use Rattle.occ_types.specs.declared.interface.PartSelector.{PartSelector}
use Rattle.occ_types.specs.declared.interface.PartSelector.TheVariants as sel
use Rattle.occ_types.specs.declared.interface.Places.{Places}
use Rattle.occ_types.specs.declared.interface.Places.TheVariants as places
use Rattle.occ_usage_parts.specs.Parts.{lies, selects}
use Rattle.occ_usage_parts.specs.Places.{holds}
use Rattle.std.proofs.lemmas.Slice.Eq.{bytes_eq-Decides}
use Rattle.occ_running.specs.Memory.{At, To, Cell, Has, InCall, InComponent, IsOneOf, Reaches, Recast, Spot, Step, Thread, Variable}
use Rattle.occ_running.specs.Running
use Rattle.occ_running.specs.Running.{Brings, Does, EndsThere, Gave, GoesOn, Outcome, Passed, Stopped, at_end, both_ended, ended, exported, exports_of, of_process, specifying}
use Rattle.occ_running.specs.Runs.{Event, Occurs, Run}
use Rattle.occ_running.specs.Scopes.{AreDeclared, Body, Clock, Element, Formal, Formula, Held, IsDeclared, IsDeclaredBy, Other, Shown, Scope, Stored, Suits, Thing, formals_of}
use Rattle.occ_running.specs.Works as works
use Rattle.occ_running.specs.Works.{Both, Call, Choice, EntersIndex, Evaluate, Find, Idle, InTurn, IsNoted, Item, Main, Nothing, Piece, Pieces, Reach, Select, Specify, Taken, Tells, Together, Under, Waiting, Way, Work, bounds, evaluate, find, guard_waits, pass, plan, replicator_of, rounds, rounds_in, waiting_plan}
use Rattle.occ_sound.specs.Agreeing.{Agrees, Covered, Extends, InPart, Matches, one_more, origin, uses_of_body, step_of, steps_of}
use Rattle.occ_sound.specs.Covering.{Allows, AllowsOne, AreIndices, ByOne, CoveredWork, component_thread, item_uses}
use Rattle.occ_sound.proofs.Calls.{has_entry, mapped, seen}
use Rattle.occ_sound.proofs.Forms.{expr_form}
use Rattle.occ_sound.proofs.Items.{copies, copies_same, in_joined, index_bounds, items_allowed, known_allowed, known_none, known_some, line_covered, main_item, own_uses, planned_no_body, replicated_uses, specified_item, unknown_allowed}
use Rattle.occ_sound.proofs.Knowing.{Good, good, raw_value}
use Rattle.occ_sound.proofs.Lines.{actuals_covered, bounds_covered, decided_covered, element_covered, evaluated_covered, find_covered, finds_covered, operands_covered, plan_covered, read_covered, selected_covered, specifying_covered, touch_covered}
use Rattle.occ_sound.proofs.Lists.{and_both, get_behind, get_below, get_cases, got_in, no_more, none_some, some_same, take_length}
use Rattle.occ_sound.proofs.Names.{FoundAs, Kept, agrees_length, agrees_same, agrees_then, formals_agree, stands}
use Rattle.occ_sound.proofs.Touching.{covered_in, covered_left, covered_right, touched}

-- ---- threads

pub extends_itself : (t : Thread) → Extends t t
extends_itself [] = tt
extends_itself (k ∷ t) = (refl, extends_itself t)

pub extends_less : (t more u : Thread) → Extends (t ++ more) u → Extends t u
extends_less [] more u h = tt
extends_less (k ∷ t) more [] h = absurd h
extends_less (k ∷ t) more (m ∷ u) h = (h.0, extends_less t more u h.1)

covered_less : (d : Scope) (t more : Thread) (us : List Use) (e : Event) → Covered d (t ++ more) us e → Covered d t us e
covered_less d t more us e (inl h) = inl (extends_less t more e.cell.thread h)
covered_less d t more us e (inr h) = inr h

-- ---- behind the scope of what was brought

-- what begins here lies in these components and calls
abbrev pub IsHere : Thread → Thing → Type 0
IsHere t x = (n : ℕ) (at : Spot) → origin n (Some x) ≡ Some at → at ≡ Variable n t

abbrev pub AreHere : Thread → List Thing → Type 0
AreHere t xs = (x : Thing) → IsOneOf xs x → IsHere t x

variable_here : (t : Thread) (n : ℕ) (at : Spot) (steps : List Step) (c : Cell) → Variable n t ≡ at → Reaches at steps c → Extends t c.thread
variable_here t n at steps c h r =
    let reached : c ≡ record { root = n; thread = t; steps = steps } = subst (λ (z : Spot). Reaches z steps c) (sym h) r in
    subst (λ (z : Cell). Extends t z.thread) (sym reached) (extends_itself t)

pub stored_here : (t : Thread) → IsHere t (Stored t)
stored_here t n at h = sym (some_same (Variable n t) at h)

-- in a scope with more: what lay in the part before, or what begins with one of them
pub part_cases : (d : Scope) (xs : List Thing) (p : Part) (c : Cell) → InPart (d ++ xs) p c
    → InPart d p c ⊎ ((i : ℕ) × (z : Thing) × (p.root ≡ length d + i) × (slice_get xs i ≡ Some z) × (at : Spot) × (origin p.root (Some z) ≡ Some at) × (steps : List Step) × Reaches at steps c)
part_cases d xs p c h =
    let found = has_entry p.root (slice_get (d ++ xs) p.root) h.start h.is in
    elim (get_cases d xs p.root found.0 found.1) [
      | inl before ↦ inl (record { start = h.start; is = ap (origin p.root) before ∙ found.2; steps = h.steps; reaches = h.reaches; inside = h.inside })
      | inr later ↦ inr (later.0, found.0, later.1, later.2, h.start, found.2, h.steps, h.reaches)
    ]

pub narrowed : (d : Scope) (t : Thread) (us : List Use) (e : Event) (xs : List Thing) → AreHere t xs → Covered (d ++ xs) t us e → Covered d t us e
narrowed d t us e xs here (inl h) = inl h
narrowed d t us e xs here (inr h) = elim (part_cases d xs h.u.part e.cell h.cell) [
  | inl before ↦ inr (record { u = h.u; among = h.among; kind = h.kind; cell = before })
  | inr last ↦ inl (variable_here t h.u.part.root last.4 last.6 e.cell (sym (here last.1 (got_in xs last.0 last.1 last.3) h.u.part.root last.4 last.5)) last.7)
]

-- ---- what is brought begins here

declared_by_here : (t : Thread) (a : Access) (of : OccType) (x : Thing) → IsDeclaredBy t a of x → IsHere t x
declared_by_here t access.Variable of x (inl h) = subst (λ (z : Thing). IsHere t z) (sym h.1) (λ n at e. none_some at e)
declared_by_here t access.Variable of x (inr h) = subst (λ (z : Thing). IsHere t z) (sym h.1) (stored_here t)
declared_by_here t access.Formal of x h = subst (λ (z : Thing). IsHere t z) (sym h) (λ n at e. none_some at e)
declared_by_here t access.Value of x h = subst (λ (z : Thing). IsHere t z) (sym h) (λ n at e. none_some at e)

other_here : (t : Thread) (x : Thing) → x ≡ Other → IsHere t x
other_here t x h = subst (λ (z : Thing). IsHere t z) (sym h) (λ n at e. none_some at e)

declared_here : (t : Thread) (m : Meaning) (x : Thing) → IsDeclared t m x → IsHere t x
declared_here t (meaning.Element w) x h = declared_by_here t w.access w.of x h
declared_here t (meaning.Procedure formals) x h = other_here t x h
declared_here t (meaning.Function formals results) x h = other_here t x h
declared_here t meaning.Faulty x h = other_here t x h
declared_here t (meaning.Type of) x h = other_here t x h
declared_here t (meaning.Protocol protocol) x h = other_here t x h

all_declared_here : (t : Thread) (es : List ScopeEntry) (xs : List Thing) → AreDeclared t es xs → AreHere t xs
all_declared_here t [] [] h x i = absurd i
all_declared_here t [] (y ∷ xs) h x i = absurd h
all_declared_here t (e ∷ es) [] h x i = absurd h
all_declared_here t (e ∷ es) (y ∷ xs) h x (inl i) = subst (λ (z : Thing). IsHere t z) (sym i) (declared_here t e.meaning y h.0)
all_declared_here t (e ∷ es) (y ∷ xs) h x (inr i) = all_declared_here t es xs h.1 x i

one_here : (t : Thread) (x : Thing) (ys : List Thing) → ys ≡ x ∷ [] → IsHere t x → AreHere t ys
one_here t x ys h here = subst (λ (zs : List Thing). AreHere t zs) (sym h) single where
  single : AreHere t (x ∷ [])
  single z (inl e) = subst (λ (w : Thing). IsHere t w) (sym e) here
  single z (inr e) = absurd e

found_here : (d : Scope) (t : Thread) (place : Option SelectedPart) (size : Option ℤ) (value : Option Value) (x : Thing) → FoundAs d place size value x → IsHere t x
found_here d t place size value (Element el n) h = λ m at e. none_some at e
found_here d t place size value (Held w n) h = λ m at e. none_some at e
found_here d t place size value (Clock n) h = λ m at e. none_some at e
found_here d t place size value (Stored u) h = absurd h
found_here d t place size value (Formal el) h = absurd h
found_here d t place size value (Body l) h = absurd h
found_here d t place size value (Formula fs rs) h = absurd h
found_here d t place size value (Shown us2) h = absurd h
found_here d t place size value Other h = absurd h

in_exports : (x : Thing) (xs : List Export) (ys : List Thing) → IsOneOf (exported xs ++ ys) x → ((us : List FormalUse) × (x ≡ Shown us)) ⊎ IsOneOf ys x
in_exports x [] ys h = inr h
in_exports x (e ∷ xs) ys (inl h) = inl (e.uses, h)
in_exports x (e ∷ xs) ys (inr h) = in_exports x xs ys h

shown_here : (t : Thread) (us : List FormalUse) (x : Thing) → x ≡ Shown us → IsHere t x
shown_here t us x h = subst (λ (z : Thing). IsHere t z) (sym h) (λ n at e. none_some at e)

exports_here : (t : Thread) (is : List Interface) → AreHere t (exports_of is)
exports_here t [] x h = absurd h
exports_here t (i ∷ is) x h = elim (in_exports x i.exports (exports_of is) h) [ inl e ↦ shown_here t e.0 x e.1 | inr g ↦ exports_here t is x g ]

pub brought_here : (env : Env) (d : Scope) (t : Thread) (l : TypedLine) (names : List ScopeEntry) (f : TypedForm) (xs ys : List Thing) → Good env d (specifying f) xs → Brings t l names f xs ys → AreHere t ys
brought_here env d t l names form.Declaration xs ys g h = all_declared_here t names ys h
brought_here env d t l names form.DataType xs ys g h = all_declared_here t names ys h
brought_here env d t l names form.Protocol xs ys g h = all_declared_here t names ys h
brought_here env d t l names form.ProcedureHead xs ys g h = one_here t (Body l) ys h (λ n at e. none_some at e)
brought_here env d t l names form.FunctionHead xs ys g h = one_here t (Body l) ys h (λ n at e. none_some at e)
brought_here env d t l names form.RecordHead xs ys g h = all_declared_here t names ys h
brought_here env d t l names form.ProtocolHead xs ys g h = all_declared_here t names ys h
brought_here env d t l names form.Member xs ys g h = all_declared_here t names ys h
brought_here env d t l names form.Close xs ys g h = all_declared_here t names ys h
brought_here env d t l names form.Skip xs ys g h = all_declared_here t names ys h
brought_here env d t l names form.Stop xs ys g h = all_declared_here t names ys h
brought_here env d t l names form.Otherwise xs ys g h = all_declared_here t names ys h
brought_here env d t l names form.ValueOf xs ys g h = all_declared_here t names ys h
brought_here env d t l names form.Unknown xs ys g h = all_declared_here t names ys h
brought_here env d t l names (form.Abbreviation el) xs ys g h = one_here t g.0 ys (h ∙ g.1) (found_here d t ((element_view el).place env) ((element_view el).size env) (raw_value el env) g.0 g.2)
brought_here env d t l names (form.Retyped el) xs ys g h = one_here t _ ys h.5 (λ n at e. none_some at e)
brought_here env d t l names (form.Value e) xs ys g h = one_here t (Held g.0 g.1) ys (h ∙ g.2) (λ n at q. none_some at q)
brought_here env d t l names (form.RetypedValue e) xs ys g h = one_here t (Held h.0 None) ys h.1 (λ n at q. none_some at q)
brought_here env d t l names (form.OneLineFunction formals results) xs ys g h = one_here t (Formula formals results) ys h (λ n at e. none_some at e)
brought_here env d t l names (form.Uses interfaces) xs ys g h = subst (λ (zs : List Thing). AreHere t zs) (sym h) (exports_here t interfaces)
brought_here env d t l names (form.Assignment els es) xs ys g h = all_declared_here t names ys h
brought_here env d t l names (form.Output el os) xs ys g h = all_declared_here t names ys h
brought_here env d t l names (form.Input i) xs ys g h = all_declared_here t names ys h
brought_here env d t l names (form.Instance callee actuals) xs ys g h = all_declared_here t names ys h
brought_here env d t l names (form.Block k r) xs ys g h = all_declared_here t names ys h
brought_here env d t l names (form.While e) xs ys g h = all_declared_here t names ys h
brought_here env d t l names (form.Selection e) xs ys g h = all_declared_here t names ys h
brought_here env d t l names (form.CaseInput el) xs ys g h = all_declared_here t names ys h
brought_here env d t l names (form.Condition e) xs ys g h = all_declared_here t names ys h
brought_here env d t l names (form.Options es) xs ys g h = all_declared_here t names ys h
brought_here env d t l names (form.Guard e g2) xs ys g h = all_declared_here t names ys h
brought_here env d t l names (form.Variant place tag ts) xs ys g h = all_declared_here t names ys h
brought_here env d t l names (form.Results es) xs ys g h = all_declared_here t names ys h

-- ---- bodies among what is brought

abbrev pub IsBrought : TypedLine → ℕ → Thing → Type 0
IsBrought l i (Body m) = (i ≡ 0) × (m ≡ l) × (((out-TypedLine l).form ≡ form.ProcedureHead) ⊎ ((out-TypedLine l).form ≡ form.FunctionHead))
IsBrought l i (Formula fs rs) = (i ≡ 0) × ((out-TypedLine l).form ≡ form.OneLineFunction fs rs)
IsBrought l i _ = Unit {0}

abbrev pub BroughtBodies : TypedLine → List Thing → Type 0
BroughtBodies l xs = (i : ℕ) (z : Thing) → slice_get xs i ≡ Some z → IsBrought l i z

single_brought : (l : TypedLine) (x : Thing) → IsBrought l 0 x → BroughtBodies l (x ∷ [])
single_brought l x h zero z e = subst (λ (y : Thing). IsBrought l 0 y) (some_same x z e) h
single_brought l x h (suc i) z e = absurd (nothing_there e) where
  nothing_there : None ≡ Some z → ⊥
  nothing_there k = cc

one_brought : (l : TypedLine) (x : Thing) (ys : List Thing) → ys ≡ x ∷ [] → IsBrought l 0 x → BroughtBodies l ys
one_brought l x ys h k = subst (λ (zs : List Thing). BroughtBodies l zs) (sym h) (single_brought l x k)

found_brought : (d : Scope) (l : TypedLine) (place : Option SelectedPart) (size : Option ℤ) (value : Option Value) (x : Thing) → FoundAs d place size value x → IsBrought l 0 x
found_brought d l place size value (Element el n) h = tt
found_brought d l place size value (Held w n) h = tt
found_brought d l place size value (Clock n) h = tt
found_brought d l place size value (Stored u) h = absurd h
found_brought d l place size value (Formal el) h = absurd h
found_brought d l place size value (Body m) h = absurd h
found_brought d l place size value (Formula fs rs) h = absurd h
found_brought d l place size value (Shown us2) h = absurd h
found_brought d l place size value Other h = absurd h

declared_by_brought : (l : TypedLine) (i : ℕ) (t : Thread) (a : Access) (of : OccType) (x : Thing) → IsDeclaredBy t a of x → IsBrought l i x
declared_by_brought l i t access.Variable of x (inl h) = subst (λ (z : Thing). IsBrought l i z) (sym h.1) tt
declared_by_brought l i t access.Variable of x (inr h) = subst (λ (z : Thing). IsBrought l i z) (sym h.1) tt
declared_by_brought l i t access.Formal of x h = subst (λ (z : Thing). IsBrought l i z) (sym h) tt
declared_by_brought l i t access.Value of x h = subst (λ (z : Thing). IsBrought l i z) (sym h) tt

other_brought : (l : TypedLine) (i : ℕ) (x : Thing) → x ≡ Other → IsBrought l i x
other_brought l i x h = subst (λ (z : Thing). IsBrought l i z) (sym h) tt

declared_brought : (l : TypedLine) (i : ℕ) (t : Thread) (m : Meaning) (x : Thing) → IsDeclared t m x → IsBrought l i x
declared_brought l i t (meaning.Element w) x h = declared_by_brought l i t w.access w.of x h
declared_brought l i t (meaning.Procedure formals) x h = other_brought l i x h
declared_brought l i t (meaning.Function formals results) x h = other_brought l i x h
declared_brought l i t meaning.Faulty x h = other_brought l i x h
declared_brought l i t (meaning.Type of) x h = other_brought l i x h
declared_brought l i t (meaning.Protocol protocol) x h = other_brought l i x h

all_declared_brought : (l : TypedLine) (t : Thread) (es : List ScopeEntry) (xs : List Thing) → AreDeclared t es xs → (i k : ℕ) (z : Thing) → slice_get xs i ≡ Some z → IsBrought l k z
all_declared_brought l t [] [] h i k z e = none_some z e
all_declared_brought l t [] (y ∷ xs) h i k z e = absurd h
all_declared_brought l t (f ∷ es) [] h i k z e = absurd h
all_declared_brought l t (f ∷ es) (y ∷ xs) h zero k z e = subst (λ (w : Thing). IsBrought l k w) (some_same y z e) (declared_brought l k t f.meaning y h.0)
all_declared_brought l t (f ∷ es) (y ∷ xs) h (suc i) k z e = all_declared_brought l t es xs h.1 i k z e

shown_brought : (l : TypedLine) (i : ℕ) (us : List FormalUse) (x : Thing) → x ≡ Shown us → IsBrought l i x
shown_brought l i us x h = subst (λ (z : Thing). IsBrought l i z) (sym h) tt

exports_shown : (js : List Interface) (x : Thing) → IsOneOf (exports_of js) x → (us : List FormalUse) × (x ≡ Shown us)
exports_shown [] x h = absurd h
exports_shown (i ∷ js) x h = elim (in_exports x i.exports (exports_of js) h) [ inl e ↦ e | inr g ↦ exports_shown js x g ]

exported_brought : (l : TypedLine) (is : List Interface) → BroughtBodies l (exports_of is)
exported_brought l is i z h = let g = exports_shown is z (got_in (exports_of is) i z h) in shown_brought l i g.0 z g.1

brought_bodies : (env : Env) (d : Scope) (t : Thread) (l : TypedLine) (names : List ScopeEntry) (f : TypedForm) (xs ys : List Thing) → (out-TypedLine l).form ≡ f → Good env d (specifying f) xs → Brings t l names f xs ys → BroughtBodies l ys
brought_bodies env d t l names form.Declaration xs ys is g h = λ i z e. all_declared_brought l t names ys h i i z e
brought_bodies env d t l names form.DataType xs ys is g h = λ i z e. all_declared_brought l t names ys h i i z e
brought_bodies env d t l names form.Protocol xs ys is g h = λ i z e. all_declared_brought l t names ys h i i z e
brought_bodies env d t l names form.ProcedureHead xs ys is g h = one_brought l (Body l) ys h (refl, refl, inl is)
brought_bodies env d t l names form.FunctionHead xs ys is g h = one_brought l (Body l) ys h (refl, refl, inr is)
brought_bodies env d t l names form.RecordHead xs ys is g h = λ i z e. all_declared_brought l t names ys h i i z e
brought_bodies env d t l names form.ProtocolHead xs ys is g h = λ i z e. all_declared_brought l t names ys h i i z e
brought_bodies env d t l names form.Member xs ys is g h = λ i z e. all_declared_brought l t names ys h i i z e
brought_bodies env d t l names form.Close xs ys is g h = λ i z e. all_declared_brought l t names ys h i i z e
brought_bodies env d t l names form.Skip xs ys is g h = λ i z e. all_declared_brought l t names ys h i i z e
brought_bodies env d t l names form.Stop xs ys is g h = λ i z e. all_declared_brought l t names ys h i i z e
brought_bodies env d t l names form.Otherwise xs ys is g h = λ i z e. all_declared_brought l t names ys h i i z e
brought_bodies env d t l names form.ValueOf xs ys is g h = λ i z e. all_declared_brought l t names ys h i i z e
brought_bodies env d t l names form.Unknown xs ys is g h = λ i z e. all_declared_brought l t names ys h i i z e
brought_bodies env d t l names (form.Abbreviation el) xs ys is g h = one_brought l g.0 ys (h ∙ g.1) (found_brought d l ((element_view el).place env) ((element_view el).size env) (raw_value el env) g.0 g.2)
brought_bodies env d t l names (form.Retyped el) xs ys is g h = one_brought l (Element (Recast h.0 h.2 h.3) None) ys h.5 tt
brought_bodies env d t l names (form.Value e) xs ys is g h = one_brought l (Held g.0 g.1) ys (h ∙ g.2) tt
brought_bodies env d t l names (form.RetypedValue e) xs ys is g h = one_brought l (Held h.0 None) ys h.1 tt
brought_bodies env d t l names (form.OneLineFunction formals results) xs ys is g h = one_brought l (Formula formals results) ys h (refl, is)
brought_bodies env d t l names (form.Uses interfaces) xs ys is g h = subst (λ (zs : List Thing). BroughtBodies l zs) (sym h) (exported_brought l interfaces)
brought_bodies env d t l names (form.Assignment els es) xs ys is g h = λ i z e. all_declared_brought l t names ys h i i z e
brought_bodies env d t l names (form.Output el os) xs ys is g h = λ i z e. all_declared_brought l t names ys h i i z e
brought_bodies env d t l names (form.Input i) xs ys is g h = λ i z e. all_declared_brought l t names ys h i i z e
brought_bodies env d t l names (form.Instance callee actuals) xs ys is g h = λ i z e. all_declared_brought l t names ys h i i z e
brought_bodies env d t l names (form.Block k r) xs ys is g h = λ i z e. all_declared_brought l t names ys h i i z e
brought_bodies env d t l names (form.While e) xs ys is g h = λ i z e. all_declared_brought l t names ys h i i z e
brought_bodies env d t l names (form.Selection e) xs ys is g h = λ i z e. all_declared_brought l t names ys h i i z e
brought_bodies env d t l names (form.CaseInput el) xs ys is g h = λ i z e. all_declared_brought l t names ys h i i z e
brought_bodies env d t l names (form.Condition e) xs ys is g h = λ i z e. all_declared_brought l t names ys h i i z e
brought_bodies env d t l names (form.Options es) xs ys is g h = λ i z e. all_declared_brought l t names ys h i i z e
brought_bodies env d t l names (form.Guard e g2) xs ys is g h = λ i z e. all_declared_brought l t names ys h i i z e
brought_bodies env d t l names (form.Variant place tag ts) xs ys is g h = λ i z e. all_declared_brought l t names ys h i i z e
brought_bodies env d t l names (form.Results es) xs ys is g h = λ i z e. all_declared_brought l t names ys h i i z e

-- what comes of a line of specification begins here
abbrev HereIf : Thread → Work → Outcome → Type 0
HereIf t (Specify l) (Gave xs) = AreHere t xs × BroughtBodies l xs
HereIf t w o = Unit {0}

stopped_here : (t : Thread) (w : Work) → HereIf t w Stopped
stopped_here t (Specify l) = tt
stopped_here t Nothing = tt
stopped_here t (Both w u) = tt
stopped_here t (Evaluate f) = tt
stopped_here t (Find el) = tt
stopped_here t (Select ss x) = tt
stopped_here t (Reach k els) = tt
stopped_here t (Call n xs) = tt
stopped_here t (Main way l) = tt
stopped_here t (Under way l) = tt
stopped_here t (Item way ls) = tt
stopped_here t (Pieces way k ps) = tt

here_if : (d : Scope) (t : Thread) (w : Work) (r : Run) (o : Outcome) → Does d t w r o → (env : Env) → Agrees env d → HereIf t w o
here_if _ _ _ _ _ (Running.stops_before d t w) env a = stopped_here t w
here_if _ _ _ _ _ (Running.stops_after d t w r o y) env a = stopped_here t w
here_if _ _ _ _ _ (Running.specifies d t l names r xs ys h x brings) env a =
    let g = good d t (specifying (out-TypedLine l).form) r (Gave xs) x env a in
    (brought_here env d t l names (out-TypedLine l).form xs ys g brings, brought_bodies env d t l names (out-TypedLine l).form xs ys refl g brings)
here_if _ _ _ _ _ (Running.nothing d t) env a = tt
here_if _ _ _ _ _ (Running.both d t w u r s xs ys x y) env a = tt
here_if _ _ _ _ _ (Running.first_stops d t w u r x) env a = tt
here_if _ _ _ _ _ (Running.second_stops d t w u r s xs x y) env a = tt
here_if _ _ _ _ _ (Running.operation d t f es r xs x h y i) env a = tt
here_if _ _ _ _ _ (Running.decided d t k op b es fs r xs i y h told) env a = tt
here_if _ _ _ _ _ (Running.operand_stops d t f es r h x) env a = tt
here_if _ _ _ _ _ (Running.read d t el r s at n c x y touches has told) env a = tt
here_if _ _ _ _ _ (Running.read_nothing d t el r at n x y bare told) env a = tt
here_if _ _ _ _ _ (Running.held d t el r x n y told) env a = tt
here_if _ _ _ _ _ (Running.element_stops d t el r x) env a = tt
here_if _ _ _ _ _ (Running.size_of_element d t k e el r y n h x told) env a = tt
here_if _ _ _ _ _ (Running.size_noted d t k e n h) env a = tt
here_if _ _ _ _ _ (Running.size d t k e n h told) env a = tt
here_if _ _ _ _ _ (Running.result d t k callee xs r n x) env a = tt
here_if _ _ _ _ _ (Running.call_stops d t k callee xs r x) env a = tt
here_if _ _ _ _ _ (Running.named d t el x y r o h f z) env a = tt
here_if _ _ _ _ _ (Running.all_selected d t x) env a = tt
here_if _ _ _ _ _ (Running.selects d t s ss x y r q xs o z sel w) env a = tt
here_if _ _ _ _ _ (Running.bound_stops d t s ss x r y) env a = tt
here_if _ _ _ _ _ (Running.reaches d t k els r s xs x y) env a = tt
here_if _ _ _ _ _ (Running.finding_stops d t k els r x) env a = tt
here_if _ _ _ _ _ (Running.calls d t n xs l r s ys o h x suits y) env a = tt
here_if _ _ _ _ _ (Running.calls_formula d t n xs formals results r s ys o h x suits y) env a = tt
here_if _ _ _ _ _ (Running.calls_export d t n actuals us r s xs h y clean shown) env a = tt
here_if _ _ _ _ _ (Running.actual_stops d t n xs r x) env a = tt
here_if _ _ _ _ _ (Running.specifying_stops d t l r x) env a = tt
here_if _ _ _ _ _ (Running.main d t way next l w r s xs o h x y) env a = tt
here_if _ _ _ _ _ (Running.main_stops d t way next l w r h x) env a = tt
here_if _ _ _ _ _ (Running.leaves d t way l e r n h k x) env a = tt
here_if _ _ _ _ _ (Running.loops d t way l e r s q n xs o h k x y z) env a = tt
here_if _ _ _ _ _ (Running.loop_stops d t way l e r s n h k x y) env a = tt
here_if _ _ _ _ _ (Running.condition_stops d t way l e r h x) env a = tt
here_if _ _ _ _ _ (Running.chosen d t l e r s n o h x y) env a = tt
here_if _ _ _ _ _ (Running.passed_over d t l e r n h x) env a = tt
here_if _ _ _ _ _ (Running.left_out d t l) env a = tt
here_if _ _ _ _ _ (Running.alternation d t way l by r s xs o h k x y) env a = tt
here_if _ _ _ _ _ (Running.shut d t l e g r n h x) env a = tt
here_if _ _ _ _ _ (Running.waiting_stops d t way l by r h k x) env a = tt
here_if _ _ _ _ _ (Running.idle d t l) env a = tt
here_if _ _ _ _ _ (Running.lines_under d t way l r o h k x) env a = tt
here_if _ _ _ _ _ (Running.replicates d t way l by r s base count i j o h k x noted y) env a = tt
here_if _ _ _ _ _ (Running.replicator_stops d t way l by r h x) env a = tt
here_if _ _ _ _ _ (Running.no_line d t way) env a = tt
here_if _ _ _ _ _ (Running.with_specification d t way l ls names r s xs o h x y) env a = tt
here_if _ _ _ _ _ (Running.specification_stops d t way l ls names r h x) env a = tt
here_if _ _ _ _ _ (Running.main_line d t way l ls r o h x) env a = tt
here_if _ _ _ _ _ (Running.none_left d t way k) env a = tt
here_if _ _ _ _ _ (Running.goes_on d t way k p ps r s o q x g y) env a = tt
here_if _ _ _ _ _ (Running.ends_there d t way k p ps r o x h) env a = tt
here_if _ _ _ _ _ (Running.not_taken d t k p ps r o x) env a = tt
here_if _ _ _ _ _ (Running.beside d t k p ps r s o q x y) env a = tt

pub specified_here : (d : Scope) (t : Thread) (l : TypedLine) (r : Run) (xs : List Thing) → Does d t (Specify l) r (Gave xs) → (env : Env) → Agrees env d → AreHere t xs
specified_here d t l r xs x env a = (here_if d t (Specify l) r (Gave xs) x env a).0

pub specified_bodies : (d : Scope) (t : Thread) (l : TypedLine) (r : Run) (xs : List Thing) → Does d t (Specify l) r (Gave xs) → (env : Env) → Agrees env d → BroughtBodies l xs
specified_bodies d t l r xs x env a = (here_if d t (Specify l) r (Gave xs) x env a).1

-- ---- indices

pub indices_here : (t : Thread) (bs : List Bound) (xs : List Thing) → AreIndices bs xs → AreHere t xs
indices_here t [] [] h x i = absurd i
indices_here t [] (y ∷ xs) h x i = absurd h
indices_here t (bound ∷ bs) [] h x i = absurd (none_left bound h) where
  none_left : (c : Bound) → AreIndices (c ∷ bs) [] → ⊥
  none_left (b.Value w size reads) k = k
  none_left (b.Root name) k = k
  none_left (b.Abbreviation p size reads) k = k
  none_left (b.Body us does) k = k
  none_left b.Other k = k
indices_here t (b.Value w size reads ∷ bs) (Held y n ∷ xs) h x (inl i) = subst (λ (z : Thing). IsHere t z) (sym i) (λ m at e. none_some at e)
indices_here t (b.Value w size reads ∷ bs) (Held y n ∷ xs) h x (inr i) = indices_here t bs xs h.2 x i
indices_here t (b.Value w size reads ∷ bs) (Element el n ∷ xs) h x i = absurd h
indices_here t (b.Value w size reads ∷ bs) (Clock n ∷ xs) h x i = absurd h
indices_here t (b.Value w size reads ∷ bs) (Stored u ∷ xs) h x i = absurd h
indices_here t (b.Value w size reads ∷ bs) (Formal el ∷ xs) h x i = absurd h
indices_here t (b.Value w size reads ∷ bs) (Body l ∷ xs) h x i = absurd h
indices_here t (b.Value w size reads ∷ bs) (Formula fs rs ∷ xs) h x i = absurd h
indices_here t (b.Value w size reads ∷ bs) ((Shown us2) ∷ xs) h x i = absurd h
indices_here t (b.Value w size reads ∷ bs) (Other ∷ xs) h x i = absurd h
indices_here t (b.Root name ∷ bs) (y ∷ xs) h x i = absurd h
indices_here t (b.Abbreviation p size reads ∷ bs) (y ∷ xs) h x i = absurd h
indices_here t (b.Body us does ∷ bs) (y ∷ xs) h x i = absurd h
indices_here t (b.Other ∷ bs) (y ∷ xs) h x i = absurd h

pub indices_agree : (env : Env) (d : Scope) (bs : List Bound) (xs : List Thing) → Agrees env d → AreIndices bs xs → Agrees (env ++ bs) (d ++ xs)
indices_agree env d [] [] a h = agrees_same env d a
indices_agree env d [] (y ∷ xs) a h = absurd h
indices_agree env d (b.Value w size reads ∷ bs) [] a h = absurd h
indices_agree env d (b.Value w size reads ∷ bs) (Held y n ∷ xs) a h =
    agrees_then env d (b.Value w size reads) bs (Held y n) xs (indices_agree (env ++ b.Value w size reads ∷ []) (d ++ Held y n ∷ []) bs xs (one_more env d (b.Value w size reads) (Held y n) a (h.0, h.1)) h.2)
indices_agree env d (b.Value w size reads ∷ bs) (Element el n ∷ xs) a h = absurd h
indices_agree env d (b.Value w size reads ∷ bs) (Clock n ∷ xs) a h = absurd h
indices_agree env d (b.Value w size reads ∷ bs) (Stored u ∷ xs) a h = absurd h
indices_agree env d (b.Value w size reads ∷ bs) (Formal el ∷ xs) a h = absurd h
indices_agree env d (b.Value w size reads ∷ bs) (Body l ∷ xs) a h = absurd h
indices_agree env d (b.Value w size reads ∷ bs) (Formula fs rs ∷ xs) a h = absurd h
indices_agree env d (b.Value w size reads ∷ bs) ((Shown us2) ∷ xs) a h = absurd h
indices_agree env d (b.Value w size reads ∷ bs) (Other ∷ xs) a h = absurd h
indices_agree env d (b.Root name ∷ bs) [] a h = absurd h
indices_agree env d (b.Root name ∷ bs) (y ∷ xs) a h = absurd h
indices_agree env d (b.Abbreviation p size reads ∷ bs) [] a h = absurd h
indices_agree env d (b.Abbreviation p size reads ∷ bs) (y ∷ xs) a h = absurd h
indices_agree env d (b.Body us does ∷ bs) [] a h = absurd h
indices_agree env d (b.Body us does ∷ bs) (y ∷ xs) a h = absurd h
indices_agree env d (b.Other ∷ bs) [] a h = absurd h
indices_agree env d (b.Other ∷ bs) (y ∷ xs) a h = absurd h

-- ---- calls

pub root_below : (d : Scope) (p : Part) (c : Cell) → InPart d p c → p.root < length d
root_below d p c h = let found = has_entry p.root (slice_get d p.root) h.start h.is in get_below d p.root found.0 found.1

-- ---- what another unit exports

pub env_length : (env : Env) (d : Scope) (n : ℕ) → Agrees (take n env) (take n d) → length (take n d) ≡ n → length (take n env) ≡ n
env_length env d n a h = agrees_length (take n env) (take n d) a ∙ h

place_held : (p : Places) (x : ℤ) → IsPlace p x → holds p x ≡ true
place_held places.None x h = absurd h
place_held places.All x h = refl
place_held (places.From a) x h = h
place_held (places.Run a n) x h = and_both (int_le a x) (int_le x (a +ℤ pos n)) h.0 h.1

step_selected : (x : PartSelector) (t : Step) → IsStep x t → selects x (step_of t) ≡ true
step_selected (sel.Field m) (To n) h = (bytes_eq-Decides m n).1 h
step_selected (sel.Field m) (At x) h = absurd h
step_selected (sel.Interval i) (To n) h = absurd h
step_selected (sel.Interval i) (At x) h = place_held i.places x h

lead_lies : (xs : List PartSelector) (ts : List Step) → LeadInto xs ts → lies xs (steps_of ts) ≡ true
lead_lies [] ts h = refl
lead_lies (x ∷ xs) [] h = absurd h
lead_lies (x ∷ xs) (t ∷ ts) h = and_both (selects x (step_of t)) (lies xs (steps_of ts)) (step_selected x t h.0) (lead_lies xs ts h.1)

exported_in : (n : ℕ) (line : Location) (us : List FormalUse) (u : FormalUse) → IsOneOf us u → IsOneOf (exported_uses n line us) (exported_use n line u)
exported_in n line [] u h = absurd h
exported_in n line (w ∷ us) u (inl h) = inl (ap (exported_use n line) h)
exported_in n line (w ∷ us) u (inr h) = inr (exported_in n line us u h)

shown_matches : (env : Env) (d : Scope) (bound : Bound) (us : List FormalUse) → Matches env d bound (Shown us) → (line : Location) × (body_of (Some bound) ≡ exported_uses (length env) line us)
shown_matches env d (b.Root name) us h = absurd h
shown_matches env d (b.Value w size reads) us h = absurd h
shown_matches env d (b.Abbreviation p size reads) us h = absurd h
shown_matches env d (b.Body ws does) us h = h
shown_matches env d b.Other us h = absurd h

formal_got : (xs : List Thing) (i : ℕ) (at : Spot) (n : Option ℤ) → slice_get xs i ≡ Some (Element at n) → slice_get (formals_of xs) i ≡ Some (Formal at)
formal_got [] i at n h = cc
formal_got (x ∷ xs) zero at n h = ap (λ (y : Thing). Some (Rattle.occ_running.specs.Scopes.formal_of y)) (some_same x (Element at n) h)
formal_got (x ∷ xs) (suc i) at n h = formal_got xs i at n h

thread_below : (t more u : Thread) → u ≡ t ++ more → Extends t u
thread_below t more u h = subst (λ (z : Thread). Extends t z) (sym h) (below t) where
  below : (s : Thread) → Extends s (s ++ more)
  below [] = tt
  below (k ∷ s) = (refl, below s)

shown_covered : (env : Env) (d : Scope) (t : Thread) (n : ℕ) (actuals : List TypedActual) (us : List FormalUse) (xs : List Thing) (x : Event) → Agrees env d → slice_get d n ≡ Some (Shown us) → Good env d (pass actuals) xs → IsShown us xs t x
    → CoveredWork (Call n actuals) env d t x
shown_covered env d t n actuals us xs x a at g (inl h) = λ line. inl (extends_less t (InCall ∷ []) x.cell.thread (thread_below (t ++ InCall ∷ []) h.0 x.cell.thread h.1))
shown_covered env d t n actuals us xs x a at g (inr h) = λ line.
    let st = stands env d a n (Shown us) at in
    let high : n < length d = get_below d n (Shown us) at in
    let len : length (take n d) ≡ n = take_length n d (omega (arith, high)) in
    let env_len : length (take n env) ≡ n = env_length env d n st.agrees len in
    let known = shown_matches (take n env) (take n d) st.bound us st.matches in
    let uses : body_of (slice_get env n) ≡ exported_uses n known.0 us = ap body_of st.got ∙ known.1 ∙ ap (λ (k : ℕ). exported_uses k known.0 us) env_len in
    let u = exported_use n known.0 h.u in
    let among : IsOneOf (body_of (slice_get env n)) u = subst (λ (ws : List Use). IsOneOf ws u) (sym uses) (exported_in n known.0 us h.u h.among) in
    let place : slice_get (take n d ++ formals_of xs) (n + h.u.formal) ≡ Some (Formal h.at) =
    ap (λ (k : ℕ). slice_get (take n d ++ formals_of xs) (k + h.u.formal)) (sym len) ∙ get_behind (take n d) (formals_of xs) h.u.formal ∙ formal_got xs h.u.formal h.at h.count h.passed in
    let part : InPart (take n d ++ formals_of xs) u.part x.cell =
    record { start = h.at; is = ap (origin (n + h.u.formal)) place; steps = h.steps; reaches = h.reaches; inside = lead_lies h.u.selectors h.steps h.selected } in
    let k = mapped env d line n actuals xs (body_of (slice_get env n)) u x.cell st.kept len g among part in
    covered_right d t (actuals_uses (actual_views actuals) env line) (called_all line n (places_of (actual_views actuals) env) (body_of (slice_get env n))) x
    (inr (record { u = k.w; among = k.among; kind = k.kind ∙ h.kind; cell = k.cell }))

-- an event of the body is one of the call
pub call_covered : (env : Env) (d : Scope) (t : Thread) (n m : ℕ) (actuals : List TypedActual) (xs : List Thing) (us : List Use) (line : Location) (x : Event) → Kept (take n d) d → length (take n d) ≡ n → Good env d (pass actuals) xs
    → m ≡ length (take n d ++ formals_of xs) → body_of (slice_get env n) ≡ body_uses n m line us → Covered (take n d ++ formals_of xs) (t ++ InCall ∷ []) us x → CoveredWork (Call n actuals) env d t x
call_covered env d t n m actuals xs us line x st len g size same (inl h) = λ where_. inl (extends_less t (InCall ∷ []) x.cell.thread h)
call_covered env d t n m actuals xs us line x st len g size same (inr h) = λ where_.
    let low : h.u.part.root < length (take n d ++ formals_of xs) = root_below (take n d ++ formals_of xs) h.u.part x.cell h.cell in
    let among : IsOneOf (body_of (slice_get env n)) (from_outside n line h.u) = subst (λ (ws : List Use). IsOneOf ws (from_outside n line h.u)) (sym same) (seen n m line us h.u h.among (omega (arith, low, size))) in
    let k = mapped env d where_ n actuals xs (body_of (slice_get env n)) (from_outside n line h.u) x.cell st len g among h.cell in
    covered_right d t (actuals_uses (actual_views actuals) env where_) (called_all where_ n (places_of (actual_views actuals) env) (body_of (slice_get env n))) x
    (inr (record { u = k.w; among = k.among; kind = k.kind ∙ h.kind; cell = k.cell }))

pub bounds_length : (es : List ScopeEntry) → length (entry_bounds es) ≡ length es
bounds_length [] = refl
bounds_length (e ∷ es) = ap suc (bounds_length es)

pub append_length : {X : Type 0} (xs ys : List X) → length (xs ++ ys) ≡ length xs + length ys
append_length [] ys = omega arith
append_length (x ∷ xs) ys = let h : length (xs ++ ys) ≡ length xs + length ys = append_length xs ys in omega (arith, h)

pub body_matches : (env : Env) (d : Scope) (bound : Bound) (l : TypedLine) → Matches env d bound (Body l) → body_of (Some bound) ≡ uses_of_body env l
body_matches env d (b.Root name) l h = absurd h
body_matches env d (b.Value w size reads) l h = absurd h
body_matches env d (b.Abbreviation p size reads) l h = absurd h
body_matches env d (b.Body us does) l h = h
body_matches env d b.Other l h = absurd h

abbrev pub FormulaUses : Env → List ScopeEntry → List TypedExpr → List Use → Type 0
FormulaUses env formals results us =
    (line : Location) × (us ≡ body_uses (length env) (length (env ++ entry_bounds formals)) line (each_uses results (env ++ entry_bounds formals) line))

pub formula_matches : (env : Env) (d : Scope) (bound : Bound) (formals : List ScopeEntry) (results : List TypedExpr) → Matches env d bound (Formula formals results) → FormulaUses env formals results (body_of (Some bound))
formula_matches env d (b.Root name) formals results h = absurd h
formula_matches env d (b.Value w size reads) formals results h = absurd h
formula_matches env d (b.Abbreviation p size reads) formals results h = absurd h
formula_matches env d (b.Body us does) formals results h = h
formula_matches env d b.Other formals results h = absurd h

-- by one of the lists
joined_covered : (d : Scope) (t : Thread) (comps : List (List Use)) (x : Event) → ByOne InTurn d t 0 comps x → Covered d t (joined comps) x
joined_covered d t comps x h = covered_in d t h.us (joined comps) x (λ u i. in_joined comps h.place h.us u h.is i) h.covered

body_covered : (env : Env) (d : Scope) (t : Thread) (n : ℕ) (actuals : List TypedActual) (l : TypedLine) (xs : List Thing) (x : Event) → Agrees env d → slice_get d n ≡ Some (Body l) → Good env d (pass actuals) xs → Suits (out-TypedLine l).enters xs
    → ((e : Env) → Agrees e (take n d ++ formals_of xs) → CoveredWork (Pieces InTurn 0 (works.items_of (out-TypedLine l).under)) e (take n d ++ formals_of xs) (t ++ InCall ∷ []) x) → CoveredWork (Call n actuals) env d t x
body_covered env d t n actuals l xs x a at g suits body =
    let st = stands env d a n (Body l) at in
    let high : n < length d = get_below d n (Body l) at in
    let len : length (take n d) ≡ n = take_length n d (omega (arith, high)) in
    let here = formals_agree (take n env) (take n d) (out-TypedLine l).enters xs st.agrees suits in
    let e = take n env ++ entry_bounds (out-TypedLine l).enters in
    let event = body e here (items_of (under l) e) (items_allowed e (out-TypedLine l).under) in
    let env_len : length (take n env) ≡ n = env_length env d n st.agrees len in
    let all : length e ≡ length (take n d ++ formals_of xs) = agrees_length e (take n d ++ formals_of xs) here in
    let sum : length e ≡ length (take n env) + length (entry_bounds (out-TypedLine l).enters) = append_length (take n env) (entry_bounds (out-TypedLine l).enters) in
    let names : length (entry_bounds (out-TypedLine l).enters) ≡ length (out-TypedLine l).enters = bounds_length (out-TypedLine l).enters in
    let uses : body_of (slice_get env n) ≡ uses_of_body (take n env) l = ap body_of st.got ∙ body_matches (take n env) (take n d) st.bound l st.matches in
    call_covered env d t n (length (take n env) + length (head_of l).enters) actuals xs (joined (items_of (under l) e)) (head_of l).place x st.kept len g
    (omega (arith, all, sum, names)) (uses ∙ ap (λ (k : ℕ). body_uses k (length (take n env) + length (head_of l).enters) (head_of l).place (joined (items_of (under l) e))) env_len)
    (joined_covered (take n d ++ formals_of xs) (t ++ InCall ∷ []) (items_of (under l) e) x event)

formula_covered : (env : Env) (d : Scope) (t : Thread) (n : ℕ) (actuals : List TypedActual) (formals : List ScopeEntry) (results : List TypedExpr) (xs : List Thing) (x : Event) → Agrees env d → slice_get d n ≡ Some (Formula formals results)
    → Good env d (pass actuals) xs → Suits formals xs → ((e : Env) → Agrees e (take n d ++ formals_of xs) → CoveredWork (evaluate results) e (take n d ++ formals_of xs) (t ++ InCall ∷ []) x) → CoveredWork (Call n actuals) env d t x
formula_covered env d t n actuals formals results xs x a at g suits body =
    let st = stands env d a n (Formula formals results) at in
    let high : n < length d = get_below d n (Formula formals results) at in
    let len : length (take n d) ≡ n = take_length n d (omega (arith, high)) in
    let here = formals_agree (take n env) (take n d) formals xs st.agrees suits in
    let e = take n env ++ entry_bounds formals in
    let known = formula_matches (take n env) (take n d) st.bound formals results st.matches in
    let env_len : length (take n env) ≡ n = env_length env d n st.agrees len in
    call_covered env d t n (length e) actuals xs (each_uses results e known.0) known.0 x st.kept len g (agrees_length e (take n d ++ formals_of xs) here)
    (ap body_of st.got ∙ known.1 ∙ ap (λ (k : ℕ). body_uses k (length e) known.0 (each_uses results e known.0)) env_len)
    (evaluated_covered e (take n d ++ formals_of xs) (t ++ InCall ∷ []) results x known.0 (body e here))

-- ---- the lines under a line

under_covered : (env : Env) (d : Scope) (t : Thread) (way : Way) (l : TypedLine) (comps : List (List Use)) (x : Event) → ((k : ℕ) (us : List Use) → slice_get comps k ≡ Some us → (u : Use) → IsOneOf us u → IsOneOf (joined (components env (head_of l) (items_of (under l)))) u)
    → ByOne way d t 0 comps x → CoveredWork (Under way l) env d t x
under_covered env d t way l comps x all h = λ line.
    covered_right d t (form_uses (head_of l).form env (head_of l).place) (joined (components env (head_of l) (items_of (under l)))) x
    (covered_in d t h.us (joined (components env (head_of l) (items_of (under l)))) x (all h.place h.us h.is) (own_thread way h.place h.us h.covered)) where
      own_thread : (w : Way) (k : ℕ) (us : List Use) → Covered d (component_thread w t (0 + k)) us x → Covered d t us x
      own_thread InTurn k us c = c
      own_thread Together k us c = covered_less d t (InComponent (0 + k) ∷ []) us x c
      own_thread Choice k us c = c
      own_thread Waiting k us c = c
      own_thread Taken k us c = c
      own_thread Idle k us c = c

pub plain_components : (env : Env) (l : TypedLine) → replicator_of (out-TypedLine l).form ≡ None → (out-TypedLine l).enters ≡ [] → components env (head_of l) (items_of (under l)) ≡ items_of (under l) env
plain_components env l h none =
    ap (λ (o : Option KnownReplicator). components_by o env (head_of l) (items_of (under l))) (known_none (out-TypedLine l).form h)
    ∙ ap (λ (es : List ScopeEntry). items_of (under l) (env ++ entry_bounds es)) none ∙ ap (λ (e : Env). items_of (under l) e) (no_more env)

pub known_components : (env : Env) (l : TypedLine) (by : TypedReplicator) (k : KnownReplicator) → replicator_of (out-TypedLine l).form ≡ Some by → by.known ≡ Some k
    → components env (head_of l) (items_of (under l)) ≡ rounds_to k.count k.base env (items_of (under l))
known_components env l by k h known = ap (λ (o : Option KnownReplicator). components_by o env (head_of l) (items_of (under l))) (known_some (out-TypedLine l).form by h ∙ known)

pub unknown_components : (env : Env) (l : TypedLine) (by : TypedReplicator) → replicator_of (out-TypedLine l).form ≡ Some by → by.known ≡ None → EntersIndex (out-TypedLine l).enters
    → components env (head_of l) (items_of (under l)) ≡ items_of (under l) (env ++ b.Value None None [] ∷ [])
unknown_components env l by h none enters =
    ap (λ (o : Option KnownReplicator). components_by o env (head_of l) (items_of (under l))) (known_some (out-TypedLine l).form by h ∙ none)
    ∙ ap (λ (bs : List Bound). items_of (under l) (env ++ bs)) (index_bounds (out-TypedLine l).enters enters)

rounds_covered : (env : Env) (d : Scope) (t : Thread) (way : Way) (l : TypedLine) (by : TypedReplicator) (base : ℤ) (n : ℕ) (x : Event) (o : Option KnownReplicator) → replicator_of (out-TypedLine l).form ≡ Some by → EntersIndex (out-TypedLine l).enters
    → by.known ≡ o → IsNoted way o base n → CoveredWork (Pieces way 0 (rounds n 0 base (out-TypedLine l).under)) env d t x → CoveredWork (Under way l) env d t x
rounds_covered env d t way l by base n x (Some k) h enters known noted event =
    let comps = rounds_to k.count k.base env (items_of (under l)) in
    let allowed : Allows env (rounds n 0 base (out-TypedLine l).under) comps =
    subst (λ (z : ℤ). Allows env (rounds n 0 z (out-TypedLine l).under) comps) (sym noted.0)
    (subst (λ (z : ℕ). Allows env (rounds z 0 k.base (out-TypedLine l).under) comps) (sym noted.1) (known_allowed k.count env k.base (out-TypedLine l).under)) in
    under_covered env d t way l comps x
    (λ j us i u g. subst (λ (cs : List (List Use)). IsOneOf (joined cs) u) (sym (known_components env l by k h known)) (in_joined comps j us u i g)) (event comps allowed)
rounds_covered env d t way l by base n x None h enters known noted event =
    let one = joined (items_of (under l) (env ++ b.Value None None [] ∷ [])) in
    under_covered env d t way l (copies n one) x
    (λ j us i u g. subst (λ (cs : List (List Use)). IsOneOf (joined cs) u) (sym (unknown_components env l by h known enters)) (subst (λ (ws : List Use). IsOneOf ws u) (sym (copies_same n j one us i)) g))
    (event (copies n one) (unknown_allowed n 0 env base (out-TypedLine l).under))

replicator_covered : (env : Env) (d : Scope) (t : Thread) (way : Way) (l : TypedLine) (by : TypedReplicator) (x : Event) → replicator_of (out-TypedLine l).form ≡ Some by → CoveredWork (evaluate (by.base ∷ by.count ∷ [])) env d t x
    → CoveredWork (Under way l) env d t x
replicator_covered env d t way l by x h event = λ line.
    let place = (head_of l).place in
    let each : each_uses (by.base ∷ by.count ∷ []) env place ≡ form_uses (head_of l).form env place =
    ap (λ (us : List Use). (expr_view by.base).uses env place ++ us) (no_more ((expr_view by.count).uses env place)) ∙ sym (replicated_uses (out-TypedLine l).form by env place h) in
    covered_left d t (form_uses (head_of l).form env place) (joined (components env (head_of l) (items_of (under l)))) x
    (subst (λ (us : List Use). Covered d t us x) each (evaluated_covered env d t (by.base ∷ by.count ∷ []) x place event))

-- ---- a line

-- by the expression of the line
by_expression : (env : Env) (d : Scope) (t : Thread) (l : TypedLine) (f : TypedForm) (e : TypedExpr) (x : Event) → (out-TypedLine l).form ≡ f → is_body f ≡ false → ((line : Location) → form_uses f env line ≡ (expr_view e).uses env line)
    → CoveredWork (Evaluate (out-TypedExpr e)) env d t x → Covered d t (own_uses env l) x
by_expression env d t l f e x same none uses event =
    line_covered env d t l x (ap is_body same ∙ none)
    (covered_left d t (form_uses (head_of l).form env (head_of l).place) (joined (components env (head_of l) (items_of (under l)))) x
    (subst (λ (us : List Use). Covered d t us x) (sym (ap (λ (g : TypedForm). form_uses g env (head_of l).place) same ∙ uses (head_of l).place))
    (subst (λ (w : ExprView). Covered d t (w.uses env (head_of l).place) x) (sym (expr_form e)) (event (head_of l).place))))

by_under : (env : Env) (d : Scope) (t : Thread) (way : Way) (l : TypedLine) (f : TypedForm) (x : Event) → (out-TypedLine l).form ≡ f → is_body f ≡ false → CoveredWork (Under way l) env d t x → Covered d t (own_uses env l) x
by_under env d t way l f x same none event = line_covered env d t l x (ap is_body same ∙ none) (event (head_of l).place)

condition_covered : (env : Env) (d : Scope) (t : Thread) (l : TypedLine) (e : TypedExpr) (x : Event) → ((out-TypedLine l).form ≡ form.While e) ⊎ ((out-TypedLine l).form ≡ form.Condition e) → CoveredWork (Evaluate (out-TypedExpr e)) env d t x
    → Covered d t (own_uses env l) x
condition_covered env d t l e x (inl same) event = by_expression env d t l (form.While e) e x same refl (λ line. refl) event
condition_covered env d t l e x (inr same) event = by_expression env d t l (form.Condition e) e x same refl (λ line. refl) event

-- ---- items

specified_covered : (env : Env) (d : Scope) (t : Thread) (way : Way) (l : TypedLine) (ls : List TypedLine) (names : List ScopeEntry) (x : Event) → (out-TypedLine l).adds ≡ Some names → CoveredWork (Specify l) env d t x → CoveredWork (Item way (l ∷ ls)) env d t x
specified_covered env d t way l ls names x h event = λ line.
    let after = item_uses (trees_of ls) (env ++ added env (head_of l) (under l) (items_of (under l))) in
    subst (λ (us : List Use). Covered d t us x) (sym (specified_item env l ls names h))
    (covered_left d t (own_uses env l) after x (covered_left d t (form_uses (head_of l).form env (head_of l).place) _ x (event line)))

rest_covered : (env : Env) (d : Scope) (t : Thread) (way : Way) (l : TypedLine) (ls : List TypedLine) (names : List ScopeEntry) (xs : List Thing) (x : Event) → (out-TypedLine l).adds ≡ Some names → AreHere t xs
    → CoveredWork (Item way ls) (env ++ added env (head_of l) (under l) (items_of (under l))) (d ++ xs) t x → CoveredWork (Item way (l ∷ ls)) env d t x
rest_covered env d t way l ls names xs x h here event = λ line.
    let after = item_uses (trees_of ls) (env ++ added env (head_of l) (under l) (items_of (under l))) in
    subst (λ (us : List Use). Covered d t us x) (sym (specified_item env l ls names h)) (covered_right d t (own_uses env l) after x (narrowed d t after x xs here (event line)))

main_covered : (env : Env) (d : Scope) (t : Thread) (way : Way) (l : TypedLine) (ls : List TypedLine) (x : Event) → (out-TypedLine l).adds ≡ None → CoveredWork (Main way l) env d t x → CoveredWork (Item way (l ∷ ls)) env d t x
main_covered env d t way l ls x h event = λ line. subst (λ (us : List Use). Covered d t us x) (sym (main_item env l ls h)) (event line)

-- ---- items and rounds

pub first_piece : (env : Env) (d : Scope) (t : Thread) (way : Way) (p : Piece) (us : List Use) (u : Thread) (x : Event) → Agrees env d → AllowsOne env p us
    → ((e : Env) → Agrees e (d ++ p.index) → CoveredWork (Item way p.lines) e (d ++ p.index) u x) → Covered d u us x
first_piece env d t way p us u x a allowed event =
    let e = env ++ allowed.0 in
    narrowed d u us x p.index (indices_here u allowed.0 p.index allowed.1)
    (covered_in (d ++ p.index) u (item_uses (trees_of p.lines) e) us x allowed.2 (event e (indices_agree env d allowed.0 p.index a allowed.1) (record { file = []; line = 0 })))

this_one : (way : Way) (d : Scope) (t : Thread) (k : ℕ) (us : List Use) (comps : List (List Use)) (x : Event) → Covered d (component_thread way t k) us x → ByOne way d t k (us ∷ comps) x
this_one way d t k us comps x h = record { place = 0; us = us; is = refl; covered = subst (λ (j : ℕ). Covered d (component_thread way t j) us x) (omega arith) h }

later_one : (way : Way) (d : Scope) (t : Thread) (k : ℕ) (us : List Use) (comps : List (List Use)) (x : Event) → ByOne way d t (suc k) comps x → ByOne way d t k (us ∷ comps) x
later_one way d t k us comps x h = record { place = suc h.place; us = h.us; is = h.is; covered = subst (λ (j : ℕ). Covered d (component_thread way t j) h.us x) (omega arith) h.covered }

goes_thread : (way : Way) (o : Outcome) (t : Thread) (k : ℕ) → GoesOn way o → t ≡ component_thread way t k
goes_thread InTurn o t k h = refl
goes_thread Together Stopped t k h = absurd h
goes_thread Together (Gave xs) t k h = absurd h
goes_thread Together Passed t k h = absurd h
goes_thread Choice o t k h = refl
goes_thread Waiting o t k h = refl
goes_thread Taken o t k h = refl
goes_thread Idle o t k h = refl

ends_thread : (way : Way) (o : Outcome) (t : Thread) (k : ℕ) → EndsThere way o → t ≡ component_thread way t k
ends_thread InTurn o t k h = refl
ends_thread Together o t k h = absurd h
ends_thread Choice o t k h = refl
ends_thread Waiting o t k h = refl
ends_thread Taken o t k h = refl
ends_thread Idle o t k h = refl

no_lists : (env : Env) (p : Piece) (ps : List Piece) → Allows env (p ∷ ps) [] → ⊥
no_lists env p ps h = h

first_covered : (env : Env) (d : Scope) (t : Thread) (way : Way) (k : ℕ) (p : Piece) (ps : List Piece) (kind_ : Way) (x : Event) → Agrees env d → t ≡ component_thread way t k
    → ((e : Env) → Agrees e (d ++ p.index) → CoveredWork (Item kind_ p.lines) e (d ++ p.index) t x) → CoveredWork (Pieces way k (p ∷ ps)) env d t x
first_covered env d t way k p ps kind_ x a same event [] allowed = absurd allowed
first_covered env d t way k p ps kind_ x a same event (us ∷ comps) allowed =
    this_one way d t k us comps x (subst (λ (u : Thread). Covered d u us x) same (first_piece env d t kind_ p us t x a allowed.0 event))

component_covered : (env : Env) (d : Scope) (t : Thread) (k : ℕ) (p : Piece) (ps : List Piece) (x : Event) → Agrees env d
    → ((e : Env) → Agrees e (d ++ p.index) → CoveredWork (Item Together p.lines) e (d ++ p.index) (t ++ InComponent k ∷ []) x) → CoveredWork (Pieces Together k (p ∷ ps)) env d t x
component_covered env d t k p ps x a event [] allowed = absurd allowed
component_covered env d t k p ps x a event (us ∷ comps) allowed = this_one Together d t k us comps x (first_piece env d t Together p us (t ++ InComponent k ∷ []) x a allowed.0 event)

later_covered : (env : Env) (d : Scope) (t : Thread) (way : Way) (k : ℕ) (p : Piece) (ps : List Piece) (x : Event) → CoveredWork (Pieces way (suc k) ps) env d t x → CoveredWork (Pieces way k (p ∷ ps)) env d t x
later_covered env d t way k p ps x event [] allowed = absurd allowed
later_covered env d t way k p ps x event (us ∷ comps) allowed = later_one way d t k us comps x (event comps allowed.1)

read_touched : (env : Env) (d : Scope) (t : Thread) (el : TypedElement) (at : Spot) (n : Option ℤ) (s : Run) (x : Event) → Good env d (Find el) (Element at n ∷ []) → Running.Touches kind.Read (Element at n ∷ []) s → Occurs x s
    → CoveredWork (Evaluate (TypedExpr-F.Element el)) env d t x
read_touched env d t el at n s x g touches i = let f = touched kind.Read (Element at n ∷ []) s touches x i in read_covered env d t el at n x g f.0 (this f.1.0 f.1.1 f.1.2 f.1.3) where
  same_spot : (p q : Spot) (j k : Option ℤ) → Element p j ≡ Element q k → p ≡ q
  same_spot p q j k e = cc

  this : (p : Spot) (k : Option ℤ) → IsOneOf (Element at n ∷ []) (Element p k) → Has p x.cell → Has at x.cell
  this p k (inl e) has = subst (λ (z : Spot). Has z x.cell) (same_spot p at k n e) has
  this p k (inr e) has = absurd e

-- ---- everything that is run

pub covers : (d : Scope) (t : Thread) (w : Work) (r : Run) (o : Outcome) → Does d t w r o → (env : Env) → Agrees env d → (x : Event) → Occurs x r → CoveredWork w env d t x
covers _ _ _ _ _ (Running.stops_before d t w) env a x i = absurd i
covers _ _ _ _ _ (Running.stops_after d t w r o y) env a x i = covers d t w r o y env a x i
covers _ _ _ _ _ (Running.nothing d t) env a x i = absurd i
covers _ _ _ _ _ (Running.both d t w u r s xs ys y z) env a x (inl i) = inl (covers d t w r (Gave xs) y env a x i)
covers _ _ _ _ _ (Running.both d t w u r s xs ys y z) env a x (inr i) = inr (covers d t u s (Gave ys) z env a x i)
covers _ _ _ _ _ (Running.first_stops d t w u r y) env a x i = inl (covers d t w r Stopped y env a x i)
covers _ _ _ _ _ (Running.second_stops d t w u r s xs y z) env a x (inl i) = inl (covers d t w r (Gave xs) y env a x i)
covers _ _ _ _ _ (Running.second_stops d t w u r s xs y z) env a x (inr i) = inr (covers d t u s Stopped z env a x i)
covers _ _ _ _ _ (Running.operation d t f es r xs n h y told) env a x i = operands_covered env d t f es x h (covers d t (evaluate es) r (Gave xs) y env a x i)
covers _ _ _ _ _ (Running.decided d t k op b es fs r xs j y h told) env a x i = decided_covered env d t k op es fs x (covers d t (evaluate es) r (Gave xs) y env a x i)
covers _ _ _ _ _ (Running.operand_stops d t f es r h y) env a x i = operands_covered env d t f es x h (covers d t (evaluate es) r Stopped y env a x i)
covers _ _ _ _ _ (Running.read d t el r s at n c w y touches has told) env a x (inl i) = find_covered env d t el x (covers d t (Find el) r (Gave (Element at n ∷ [])) y env a x i)
covers _ _ _ _ _ (Running.read d t el r s at n c w y touches has told) env a x (inr (inl i)) = read_touched env d t el at n s x (good d t (Find el) r (Gave (Element at n ∷ [])) y env a) touches i
covers _ _ _ _ _ (Running.read d t el r s at n c w y touches has told) env a x (inr (inr i)) =
    read_covered env d t el at n x (good d t (Find el) r (Gave (Element at n ∷ [])) y env a) (ap (λ (f : Event). f.kind) i) (subst (λ (f : Event). Has at f.cell) (sym i) has)
covers _ _ _ _ _ (Running.read_nothing d t el r at n w y bare told) env a x i = find_covered env d t el x (covers d t (Find el) r (Gave (Element at n ∷ [])) y env a x i)
covers _ _ _ _ _ (Running.held d t el r w n y told) env a x i = find_covered env d t el x (covers d t (Find el) r (Gave (Held w n ∷ [])) y env a x i)
covers _ _ _ _ _ (Running.element_stops d t el r y) env a x i = find_covered env d t el x (covers d t (Find el) r Stopped y env a x i)
covers _ _ _ _ _ (Running.size_of_element d t k e el r y n h z told) env a x i = absurd i
covers _ _ _ _ _ (Running.size_noted d t k e n h) env a x i = absurd i
covers _ _ _ _ _ (Running.size d t k e n h told) env a x i = absurd i
covers _ _ _ _ _ (Running.result d t k callee xs r n y) env a x i = covers d t (Call callee.spec xs) r (Gave []) y env a x i
covers _ _ _ _ _ (Running.call_stops d t k callee xs r y) env a x i = covers d t (Call callee.spec xs) r Stopped y env a x i
covers _ _ _ _ _ (Running.named d t el z y r o h f g) env a x i = element_covered env d t el x (covers d t (Select (out-TypedElement el).selectors y) r o g env a x i)
covers _ _ _ _ _ (Running.all_selected d t y) env a x i = absurd i
covers _ _ _ _ _ (Running.selects d t s ss z y r q xs o g sel w) env a x (inl i) = λ line. bounds_covered env d t s ss x line (covers d t (evaluate (bounds (out-Selector s))) r (Gave xs) g env a x i)
covers _ _ _ _ _ (Running.selects d t s ss z y r q xs o g sel w) env a x (inr i) = λ line. selected_covered env d t s ss x line (covers d t (Select ss y) q o w env a x i line)
covers _ _ _ _ _ (Running.bound_stops d t s ss z r y) env a x i = λ line. bounds_covered env d t s ss x line (covers d t (evaluate (bounds (out-Selector s))) r Stopped y env a x i)
covers _ _ _ _ _ (Running.reaches d t k els r s xs y touches) env a x (inl i) = λ line. finds_covered env d t k els x line (covers d t (find els) r (Gave xs) y env a x i)
covers _ _ _ _ _ (Running.reaches d t k els r s xs y touches) env a x (inr i) = λ line.
    let f = touched k xs s touches x i in touch_covered env d t k els xs f.1.0 f.1.1 x line (good d t (find els) r (Gave xs) y env a) f.0 f.1.3 f.1.2
covers _ _ _ _ _ (Running.finding_stops d t k els r y) env a x i = λ line. finds_covered env d t k els x line (covers d t (find els) r Stopped y env a x i)
covers _ _ _ _ _ (Running.calls d t n actuals l r s xs o h y suits z) env a x (inl i) = λ line.
    covered_left d t (actuals_uses (actual_views actuals) env line) (called_all line n (places_of (actual_views actuals) env) (body_of (slice_get env n))) x (actuals_covered env d t actuals x line (covers d t (pass actuals) r (Gave xs) y env a x i))
covers _ _ _ _ _ (Running.calls d t n actuals l r s xs o h y suits z) env a x (inr i) =
    body_covered env d t n actuals l xs x a h (good d t (pass actuals) r (Gave xs) y env a) suits
    (λ e g. covers (take n d ++ formals_of xs) (t ++ InCall ∷ []) (Pieces InTurn 0 (works.items_of (out-TypedLine l).under)) s o z e g x i)
covers _ _ _ _ _ (Running.calls_formula d t n actuals formals results r s xs o h y suits z) env a x (inl i) = λ line.
    covered_left d t (actuals_uses (actual_views actuals) env line) (called_all line n (places_of (actual_views actuals) env) (body_of (slice_get env n))) x (actuals_covered env d t actuals x line (covers d t (pass actuals) r (Gave xs) y env a x i))
covers _ _ _ _ _ (Running.calls_formula d t n actuals formals results r s xs o h y suits z) env a x (inr i) =
    formula_covered env d t n actuals formals results xs x a h (good d t (pass actuals) r (Gave xs) y env a) suits
    (λ e g. covers (take n d ++ formals_of xs) (t ++ InCall ∷ []) (evaluate results) s o z e g x i)
covers _ _ _ _ _ (Running.calls_export d t n actuals us r s xs h y clean shown) env a x (inl i) = λ line.
    covered_left d t (actuals_uses (actual_views actuals) env line) (called_all line n (places_of (actual_views actuals) env) (body_of (slice_get env n))) x (actuals_covered env d t actuals x line (covers d t (pass actuals) r (Gave xs) y env a x i))
covers _ _ _ _ _ (Running.calls_export d t n actuals us r s xs h y clean shown) env a x (inr i) = shown_covered env d t n actuals us xs x a h (good d t (pass actuals) r (Gave xs) y env a) (shown x i)
covers _ _ _ _ _ (Running.actual_stops d t n actuals r y) env a x i = λ line.
    covered_left d t (actuals_uses (actual_views actuals) env line) (called_all line n (places_of (actual_views actuals) env) (body_of (slice_get env n))) x (actuals_covered env d t actuals x line (covers d t (pass actuals) r Stopped y env a x i))
covers _ _ _ _ _ (Running.specifies d t l names r xs ys h y brings) env a x i = λ line. specifying_covered env d t (out-TypedLine l).form x (head_of l).place (covers d t (specifying (out-TypedLine l).form) r (Gave xs) y env a x i)
covers _ _ _ _ _ (Running.specifying_stops d t l r y) env a x i = λ line. specifying_covered env d t (out-TypedLine l).form x (head_of l).place (covers d t (specifying (out-TypedLine l).form) r Stopped y env a x i)
covers _ _ _ _ _ (Running.main d t way next l w r s xs o h y z) env a x (inl i) = λ line.
    line_covered env d t l x (planned_no_body way (out-TypedLine l).form (w, next) h)
    (covered_left d t (form_uses (head_of l).form env (head_of l).place) (joined (components env (head_of l) (items_of (under l)))) x
    (plan_covered env d t way next (out-TypedLine l).form w x h (covers d t w r (Gave xs) y env a x i) (head_of l).place))
covers _ _ _ _ _ (Running.main d t way next l w r s xs o h y z) env a x (inr i) = λ line.
    line_covered env d t l x (planned_no_body way (out-TypedLine l).form (w, next) h) (covers d t (Under next l) s o z env a x i line)
covers _ _ _ _ _ (Running.main_stops d t way next l w r h y) env a x i = λ line.
    line_covered env d t l x (planned_no_body way (out-TypedLine l).form (w, next) h)
    (covered_left d t (form_uses (head_of l).form env (head_of l).place) (joined (components env (head_of l) (items_of (under l)))) x
    (plan_covered env d t way next (out-TypedLine l).form w x h (covers d t w r Stopped y env a x i) (head_of l).place))
covers _ _ _ _ _ (Running.leaves d t way l e r n h k y) env a x i = λ line. condition_covered env d t l e x (inl h) (covers d t (Evaluate (out-TypedExpr e)) r (Gave (Held (Some (v.Bool false)) n ∷ [])) y env a x i)
covers _ _ _ _ _ (Running.loops d t way l e r s q n xs o h k y z w) env a x (inl i) = λ line. condition_covered env d t l e x (inl h) (covers d t (Evaluate (out-TypedExpr e)) r (Gave (Held (Some (v.Bool true)) n ∷ [])) y env a x i)
covers _ _ _ _ _ (Running.loops d t way l e r s q n xs o h k y z w) env a x (inr (inl i)) = λ line. by_under env d t InTurn l (form.While e) x h refl (covers d t (Under InTurn l) s (Gave xs) z env a x i)
covers _ _ _ _ _ (Running.loops d t way l e r s q n xs o h k y z w) env a x (inr (inr i)) = covers d t (Main way l) q o w env a x i
covers _ _ _ _ _ (Running.loop_stops d t way l e r s n h k y z) env a x (inl i) = λ line. condition_covered env d t l e x (inl h) (covers d t (Evaluate (out-TypedExpr e)) r (Gave (Held (Some (v.Bool true)) n ∷ [])) y env a x i)
covers _ _ _ _ _ (Running.loop_stops d t way l e r s n h k y z) env a x (inr i) = λ line. by_under env d t InTurn l (form.While e) x h refl (covers d t (Under InTurn l) s Stopped z env a x i)
covers _ _ _ _ _ (Running.condition_stops d t way l e r h y) env a x i = λ line. condition_covered env d t l e x h (covers d t (Evaluate (out-TypedExpr e)) r Stopped y env a x i)
covers _ _ _ _ _ (Running.chosen d t l e r s n o h y z) env a x (inl i) = λ line. condition_covered env d t l e x (inr h) (covers d t (Evaluate (out-TypedExpr e)) r (Gave (Held (Some (v.Bool true)) n ∷ [])) y env a x i)
covers _ _ _ _ _ (Running.chosen d t l e r s n o h y z) env a x (inr i) = λ line. by_under env d t InTurn l (form.Condition e) x h refl (covers d t (Under InTurn l) s o z env a x i)
covers _ _ _ _ _ (Running.passed_over d t l e r n h y) env a x i = λ line. condition_covered env d t l e x (inr h) (covers d t (Evaluate (out-TypedExpr e)) r (Gave (Held (Some (v.Bool false)) n ∷ [])) y env a x i)
covers _ _ _ _ _ (Running.left_out d t l) env a x i = absurd i
covers _ _ _ _ _ (Running.alternation d t way l by r s xs o h k y z) env a x (inl i) = λ line. by_under env d t Waiting l (form.Block block.Alternation by) x h refl (covers d t (Under Waiting l) r (Gave xs) y env a x i)
covers _ _ _ _ _ (Running.alternation d t way l by r s xs o h k y z) env a x (inr i) = λ line. by_under env d t Taken l (form.Block block.Alternation by) x h refl (covers d t (Under Taken l) s o z env a x i)
covers _ _ _ _ _ (Running.shut d t l e g r n h y) env a x i = λ line.
    let planned : plan Waiting (out-TypedLine l).form ≡ Some (Both (Evaluate (out-TypedExpr e)) (guard_waits g), Idle) = ap waiting_plan h in
    line_covered env d t l x (planned_no_body Waiting (out-TypedLine l).form (Both (Evaluate (out-TypedExpr e)) (guard_waits g), Idle) planned)
    (covered_left d t (form_uses (head_of l).form env (head_of l).place) (joined (components env (head_of l) (items_of (under l)))) x
    (plan_covered env d t Waiting Idle (out-TypedLine l).form (Both (Evaluate (out-TypedExpr e)) (guard_waits g)) x planned (inl (covers d t (Evaluate (out-TypedExpr e)) r (Gave (Held (Some (v.Bool false)) n ∷ [])) y env a x i)) (head_of l).place))
covers _ _ _ _ _ (Running.waiting_stops d t way l by r h k y) env a x i = λ line. by_under env d t Waiting l (form.Block block.Alternation by) x h refl (covers d t (Under Waiting l) r Stopped y env a x i)
covers _ _ _ _ _ (Running.idle d t l) env a x i = absurd i
covers _ _ _ _ _ (Running.lines_under d t way l r o h none y) env a x i =
    under_covered env d t way l (items_of (under l) env) x
    (λ k us g u j. subst (λ (cs : List (List Use)). IsOneOf (joined cs) u) (sym (plain_components env l h none)) (in_joined (items_of (under l) env) k us u g j))
    (covers d t (Pieces way 0 (works.items_of (out-TypedLine l).under)) r o y env a x i (items_of (under l) env) (items_allowed env (out-TypedLine l).under))
covers _ _ _ _ _ (Running.replicates d t way l by r s base count f g o h enters y noted z) env a x (inl i) =
    replicator_covered env d t way l by x h (covers d t (evaluate (by.base ∷ by.count ∷ [])) r (Gave (Held (Some (v.Int base)) f ∷ Held (Some (v.Int count)) g ∷ [])) y env a x i)
covers _ _ _ _ _ (Running.replicates d t way l by r s base count f g o h enters y noted z) env a x (inr i) =
    rounds_covered env d t way l by base (rounds_in count) x by.known h enters refl noted (covers d t (Pieces way 0 (rounds (rounds_in count) 0 base (out-TypedLine l).under)) s o z env a x i)
covers _ _ _ _ _ (Running.replicator_stops d t way l by r h y) env a x i = replicator_covered env d t way l by x h (covers d t (evaluate (by.base ∷ by.count ∷ [])) r Stopped y env a x i)
covers _ _ _ _ _ (Running.no_line d t way) env a x i = absurd i
covers _ _ _ _ _ (Running.with_specification d t way l ls names r s xs o h y z) env a x (inl i) = specified_covered env d t way l ls names x h (covers d t (Specify l) r (Gave xs) y env a x i)
covers _ _ _ _ _ (Running.with_specification d t way l ls names r s xs o h y z) env a x (inr i) =
    rest_covered env d t way l ls names xs x h (specified_here d t l r xs y env a)
    (covers (d ++ xs) t (Item way ls) s o z (env ++ added env (head_of l) (under l) (items_of (under l))) (good d t (Specify l) r (Gave xs) y env a) x i)
covers _ _ _ _ _ (Running.specification_stops d t way l ls names r h y) env a x i = specified_covered env d t way l ls names x h (covers d t (Specify l) r Stopped y env a x i)
covers _ _ _ _ _ (Running.main_line d t way l ls r o h y) env a x i = main_covered env d t way l ls x h (covers d t (Main way l) r o y env a x i)
covers _ _ _ _ _ (Running.none_left d t way k) env a x i = absurd i
covers _ _ _ _ _ (Running.goes_on d t way k p ps r s o q y g z) env a x (inl i) =
    first_covered env d t way k p ps way x a (goes_thread way o t k g) (λ e f. covers (d ++ p.index) t (Item way p.lines) r o y e f x i)
covers _ _ _ _ _ (Running.goes_on d t way k p ps r s o q y g z) env a x (inr i) = later_covered env d t way k p ps x (covers d t (Pieces way (suc k) ps) s q z env a x i)
covers _ _ _ _ _ (Running.ends_there d t way k p ps r o y g) env a x i = first_covered env d t way k p ps way x a (ends_thread way o t k g) (λ e f. covers (d ++ p.index) t (Item way p.lines) r o y e f x i)
covers _ _ _ _ _ (Running.not_taken d t k p ps r o y) env a x i = later_covered env d t Taken k p ps x (covers d t (Pieces Taken (suc k) ps) r o y env a x i)
covers _ _ _ _ _ (Running.beside d t k p ps r s o q y z) env a x (inl i) =
    component_covered env d t k p ps x a (λ e f. covers (d ++ p.index) (t ++ InComponent k ∷ []) (Item Together p.lines) r o y e f x i)
covers _ _ _ _ _ (Running.beside d t k p ps r s o q y z) env a x (inr i) = later_covered env d t Together k p ps x (covers d t (Pieces Together (suc k) ps) s q z env a x i)
