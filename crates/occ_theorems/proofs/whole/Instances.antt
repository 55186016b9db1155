-- Instances of PROCs without faults: the specification and the actuals are there.
use Rattle.std.proofs.Common.{◌≡◌, ◌∙◌, ◌++◌, ℕ, Bool, true, false, List, [], ◌∷◌, map, length, Option, Some, None, if◌then◌else◌, refl, ap, sym, subst}
use Rattle.std.specs.Prelude.{◌==◌}
use Rattle.occ_base.specs.Reporting.{nameless}
use Rattle.occ_base.specs.declared.code.Code.TheVariants as code
use Rattle.occ_base.specs.declared.fault.Fault.{Fault}
use Rattle.occ_expr_operations.specs.Parts.{in_scope, own_faults, terms}
use Rattle.occ_expr_operations.specs.Sides.{Called, each_one, one_call}
use Rattle.occ_expr_operations.specs.Views.{element_view, expr_view, expr_views, item_opens}
use Rattle.occ_forms_expressions.specs.declared.tree.Element.{Element}
use Rattle.occ_forms_expressions.specs.declared.tree.Expr.{Expr}
use Rattle.occ_scope.specs.Visible.{referent, visible}
use Rattle.occ_scope.specs.declared.meaning.Meaning.{Meaning}
use Rattle.occ_scope.specs.declared.meaning.Meaning.TheVariants as m
use Rattle.occ_scope.specs.declared.meaning.Referent.{Referent}
use Rattle.occ_scope.specs.declared.scope.Scope.{Scope}
use Rattle.occ_typing_operands.specs.Operators.{is_faulty}
use Rattle.occ_typing_tables.specs.Terms.{alone, judged, judged_all}
use Rattle.occ_typing_rules.specs.Placing.{placed}
use Rattle.occ_typing_rules.specs.declared.expr.TypedActual.{TypedActual}
use Rattle.occ_typing_rules.specs.declared.expr.TypedElement.{TypedElement}
use Rattle.occ_typing_rules.specs.declared.expr.TypedExpr.{TypedExpr}
use Rattle.occ_typing_statements.specs.Actuals.{actual_faults, actual_tree, actuals_faults, actuals_tree, another_number, each_faults, each_tree, element_in, misplaced_value, one_actual, reference_faults, reference_tree, taken, value_by, value_of, variable_of, with_actuals}
use Rattle.occ_typing_statements.specs.Instances.{call_faults, call_tree, faults_by, hidden_arguments, instance_faults, instance_tree, no_instance, no_procedure, tree_by, with_callee}
use Rattle.occ_typing_rules.specs.Numbering.{of_another_number}
use Rattle.occ_typing_statements.specs.declared.instances.TypedInstance.{TypedInstance}
use Rattle.occ_expr.specs.Targets.{target_of}
use Rattle.occ_types.specs.declared.interface.Formal.{Formal}
use Rattle.occ_types.specs.declared.interface.Passing.{Passing}
use Rattle.occ_types.specs.declared.interface.Passing.TheVariants as passing
use Rattle.occ_types.specs.declared.types.OccType.{OccType}
use Rattle.occ_typing.specs.Known.{AreKnownFormals, IsKnownProcedure, IsKnownScope, IsKnownType}
use Rattle.occ_typing.specs.WholeTrees.{AreWholeActuals, IsWholeActual, IsWholeElement, IsWholeExpr}
use Rattle.occ_typing.specs.WholeTrees as wholes
use Rattle.occ_typing.proofs.whole.Made as made
use Rattle.occ_theorems.proofs.whole.Clean.{Has, IsThere, back_clean, front_clean}
use Rattle.occ_theorems.proofs.whole.Elements.{another_reported, element_known}
use Rattle.occ_theorems.proofs.whole.Names.{PerhapsKnown, Refers, refers, visible_known}
use Rattle.occ_theorems.proofs.whole.Reading.{placed_as}
use Rattle.occ_theorems.proofs.whole.Sound.{no_fault}
use Rattle.occ_theorems.proofs.whole.Statements.{every_expr_known, said_sound, target_sound}

-- ---- actuals

value_there : (t : Option TypedExpr) → Has IsWholeExpr t → Has IsWholeActual (value_of t)
value_there None h = h
value_there (Some t) h = made.value t h

variable_there : (el : Option TypedElement) → Has IsWholeElement el → Has IsWholeActual (variable_of el)
variable_there None h = h
variable_there (Some el) h = made.variable el h

value_read : (s : Scope) (of : OccType) (e : Expr) → IsKnownScope s → IsKnownType of → value_by of ((expr_view e).said s) ≡ [] → Has IsWholeExpr (placed ((expr_view e).open_expr s) of)
value_read s of e known h c =
    let x = (expr_view e).said s in
    let y = (judged x.term).under of in
    placed_as of y.kind ((expr_view e).open_expr s) h ((said_sound s e known (front_clean x.faults y.faults c)).wanted of (back_clean x.faults y.faults c))

element_reported : (b : Bool) → b ≡ false → (if b then [] else nameless code.T3 ∷ []) ≡ [] → ⊥
element_reported true is e = absurd cc
element_reported false is e = absurd cc

misplaced_never : (s : Scope) (e : Expr) → IsKnownScope s → misplaced_value ((expr_view e).said s) ≡ [] → ⊥
misplaced_never s e known c =
    let x = (expr_view e).said s in
    let y = (judged x.term).alone in
    let last = if is_faulty y.kind then [] else nameless code.T3 ∷ [] in
    let rest = back_clean x.faults (y.faults ++ last) c in
    let r = (said_sound s e known (front_clean x.faults (y.faults ++ last) c)).by_itself (front_clean y.faults last rest) in
    element_reported (is_faulty y.kind) (no_fault y.kind ((expr_view e).open_expr s) r) (back_clean y.faults last rest)

reference_read : (s : Scope) (of : OccType) (e : Expr) (el : Option Element) → IsKnownScope s → reference_faults s of e el ≡ [] → Has IsWholeActual (reference_tree s el)
reference_read s of e None known c = absurd (misplaced_never s e known c)
reference_read s of e (Some el) known c =
    let x = target_of s el in
    let r = target_sound s el known (front_clean x.faults (taken of x.kind).faults c) in
    variable_there ((element_view el).tree s) (element_known x.kind ((element_view el).tree s) r).1

actual_read : (s : Scope) (of : OccType) (by : Passing) (e : Expr) → IsKnownScope s → IsKnownType of → actual_faults s of by e ≡ [] → Has IsWholeActual (actual_tree s of by e)
actual_read s of passing.Value e known h c = value_there (placed ((expr_view e).open_expr s) of) (value_read s of e known h c)
actual_read s of passing.Reference e known h c = reference_read s of e (element_in s e) known c

more_actuals : (xs ys : List TypedActual) → AreWholeActuals xs → AreWholeActuals ys → AreWholeActuals (xs ++ ys)
more_actuals _ ys wholes.no_actual g = g
more_actuals _ ys (wholes.one_actual x xs here following) g = wholes.one_actual x (xs ++ ys) here (more_actuals xs ys following g)

both_actuals : (xs ys : Option (List TypedActual)) → Has AreWholeActuals xs → Has AreWholeActuals ys → Has AreWholeActuals (with_actuals xs ys)
both_actuals None ys h g = h
both_actuals (Some xs) None h g = g
both_actuals (Some xs) (Some ys) h g = more_actuals xs ys h g

one_there : (x : Option TypedActual) → Has IsWholeActual x → Has AreWholeActuals (one_actual x)
one_there None h = h
one_there (Some x) h = wholes.one_actual x [] h wholes.no_actual

each_read : (s : Scope) (fs : List Formal) (es : List Expr) → IsKnownScope s → AreKnownFormals fs → each_faults s fs es ≡ [] → Has AreWholeActuals (each_tree s fs es)
each_read s [] es known h c = wholes.no_actual
each_read s (f ∷ fs) [] known h c = wholes.no_actual
each_read s (f ∷ fs) (e ∷ es) known h c =
    let x = actual_faults s f.of f.passing e in
    both_actuals (one_actual (actual_tree s f.of f.passing e)) (each_tree s fs es) (one_there (actual_tree s f.of f.passing e) (actual_read s f.of f.passing e known h.0 (front_clean x (each_faults s fs es) c))) (each_read s fs es known h.1 (back_clean x (each_faults s fs es) c))

another_never : (s : Scope) (es : List Expr) → IsKnownScope s → another_number (each_one s es) ≡ [] → ⊥
another_never s es known c =
    let xs = in_scope s (expr_views es) in
    let js = judged_all (terms xs) in
    another_reported js (item_opens s (expr_views es)) (every_expr_known s es known (front_clean (own_faults xs) (of_another_number false (map alone js)) c)) (back_clean (own_faults xs) (of_another_number false (map alone js)) c)

actuals_if : (b : Bool) (s : Scope) (fs : List Formal) (es : List Expr) → IsKnownScope s → AreKnownFormals fs → (if b then each_faults s fs es else another_number (each_one s es)) ≡ [] → Has AreWholeActuals (if b then each_tree s fs es else None)
actuals_if true s fs es known h c = each_read s fs es known h c
actuals_if false s fs es known h c = absurd (another_never s es known c)

actuals_read : (s : Scope) (fs : List Formal) (es : List Expr) → IsKnownScope s → AreKnownFormals fs → actuals_faults s fs es ≡ [] → Has AreWholeActuals (actuals_tree s fs es)
unfolding actuals_faults actuals_tree
actuals_read s fs es known h c = actuals_if (length fs == length es) s fs es known h c

-- ---- the call

-- an instance of a procedure that is known, with whole actuals
abbrev pub InstanceKnown : Option TypedInstance → Type 0
InstanceKnown None = ⊥
InstanceKnown (Some x) = IsKnownProcedure x.callee.meaning × AreWholeActuals x.actuals

actuals_there : (r : Referent) (xs : Option (List TypedActual)) → IsKnownProcedure r.meaning → Has AreWholeActuals xs → InstanceKnown (with_callee (Some r) xs)
actuals_there r None h g = absurd g
actuals_there r (Some xs) h g = (h, g)

callee_there : (found : Option Referent) (fs : List Formal) (xs : Option (List TypedActual)) → Refers found (m.Procedure fs) → AreKnownFormals fs → Has AreWholeActuals xs → InstanceKnown (with_callee found xs)
callee_there found fs xs x h g =
    subst (λ (o : Option Referent). InstanceKnown (with_callee o xs)) (sym x.is)
    (actuals_there x.referent xs (subst IsKnownProcedure (sym x.means) h) g)

abbrev IsProcedure : Option Meaning → Type 0
IsProcedure None = ⊥
IsProcedure (Some m.Faulty) = ⊥
IsProcedure (Some (m.Type of)) = ⊥
IsProcedure (Some (m.Protocol c)) = ⊥
IsProcedure (Some (m.Procedure fs)) = Unit {0}
IsProcedure (Some (m.Function fs types)) = ⊥
IsProcedure (Some (m.Element whole)) = ⊥

no_procedure_reported : (name : List ℕ) (found : Option Meaning) (rest : List Fault) → PerhapsKnown found → (IsProcedure found → ⊥) → no_procedure name found ++ rest ≡ [] → ⊥
no_procedure_reported name None rest h g e = absurd cc
no_procedure_reported name (Some m.Faulty) rest h g e = h
no_procedure_reported name (Some (m.Type None)) rest h g e = h
no_procedure_reported name (Some (m.Type (Some of))) rest h g e = absurd cc
no_procedure_reported name (Some (m.Protocol c)) rest h g e = absurd cc
no_procedure_reported name (Some (m.Procedure fs)) rest h g e = g tt
no_procedure_reported name (Some (m.Function fs types)) rest h g e = absurd cc
no_procedure_reported name (Some (m.Element whole)) rest h g e = absurd cc

no_instance_never : (s : Scope) (name : List ℕ) (es : List Expr) (found : Option Meaning) → PerhapsKnown found → (IsProcedure found → ⊥) → visible s name ≡ found → no_instance s name es ≡ [] → ⊥
no_instance_never s name es found h g is e =
    let rest = hidden_arguments (each_one s es) in
    no_procedure_reported name found rest h g (sym (ap (λ (o : Option Meaning). no_procedure name o ++ rest) is) ∙ e)

call_read : (s : Scope) (name : List ℕ) (es : List Expr) (found : Option Meaning) → IsKnownScope s → PerhapsKnown found → visible s name ≡ found → call_faults s name es found ≡ [] → InstanceKnown (call_tree s name es found)
call_read s name es None known h is e = absurd (no_instance_never s name es None h (λ f. f) is e)
call_read s name es (Some m.Faulty) known h is e = absurd h
call_read s name es (Some (m.Type None)) known h is e = absurd h
call_read s name es (Some (m.Type (Some of))) known h is e = absurd (no_instance_never s name es (Some (m.Type (Some of))) h (λ f. f) is e)
call_read s name es (Some (m.Protocol c)) known h is e = absurd (no_instance_never s name es (Some (m.Protocol c)) h (λ f. f) is e)
call_read s name es (Some (m.Procedure fs)) known h is e = callee_there (referent s name) fs (actuals_tree s fs es) (refers s name (m.Procedure fs) is) h (actuals_read s fs es known h e)
call_read s name es (Some (m.Function fs types)) known h is e = absurd (no_instance_never s name es (Some (m.Function fs types)) h (λ f. f) is e)
call_read s name es (Some (m.Element whole)) known h is e = absurd (no_instance_never s name es (Some (m.Element whole)) h (λ f. f) is e)

by_read : (s : Scope) (call : Option Called) → IsThere call → IsKnownScope s → faults_by s call ≡ [] → InstanceKnown (tree_by s call)
by_read s None h known e = absurd h
by_read s (Some call) h known e = call_read s call.0 call.1 (visible s call.0) known (visible_known s call.0 known) refl e

-- a line that is a call
pub instance_there : (s : Scope) (es : List Expr) → IsThere (one_call es) → IsKnownScope s → instance_faults s es ≡ [] → InstanceKnown (instance_tree s es)
unfolding instance_faults instance_tree
instance_there s es h known e = by_read s (one_call es) h known e
