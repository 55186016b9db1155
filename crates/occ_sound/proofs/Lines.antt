-- Each event of a run lies in a use of what is run.
use Rattle.std.proofs.Common.{◌≡◌, ap, sym, subst, ◌∙◌, refl, List, [], ◌∷◌, ◌++◌, Option, Some, None, inl, inr}
use Rattle.std.specs.Prelude.{ℤ}
use Rattle.occ_project.specs.declared.expanded.Location.{Location}
use Rattle.occ_types.specs.declared.interface.UseKind.{UseKind}
use Rattle.occ_types.specs.declared.interface.UseKind.TheVariants as kind
use Rattle.occ_typing_lines.specs.declared.tree.BlockKind.{BlockKind}
use Rattle.occ_typing_lines.specs.declared.tree.BlockKind.TheVariants as block
use Rattle.occ_typing_lines.specs.declared.tree.TypedForm.{TypedForm}
use Rattle.occ_typing_lines.specs.declared.tree.TypedForm.TheVariants as form
use Rattle.occ_typing_lines.specs.declared.tree.TypedGuard.{TypedGuard}
use Rattle.occ_typing_lines.specs.declared.tree.TypedGuard.TheVariants as guard
use Rattle.occ_typing_rules.specs.declared.expr.Selector.{Selector, out-Selector}
use Rattle.occ_typing_rules.specs.declared.expr.Selector.TheOpen.{Selector-F, TypedActual-F, TypedExpr-F}
use Rattle.occ_typing_rules.specs.declared.expr.TypedActual.{TypedActual, out-TypedActual}
use Rattle.occ_typing_rules.specs.declared.expr.TypedElement.{TypedElement, out-TypedElement}
use Rattle.occ_typing_rules.specs.declared.expr.TypedExpr.{TypedExpr, out-TypedExpr}
use Rattle.occ_typing_statements.specs.declared.exchange_tree.TypedInput.{TypedInput}
use Rattle.occ_typing_statements.specs.declared.exchange_tree.TypedInput.TheVariants as input
use Rattle.occ_typing_statements.specs.declared.exchange_tree.TypedOutput.{TypedOutput}
use Rattle.occ_typing_statements.specs.declared.exchange_tree.TypedOutput.TheVariants as output
use Rattle.occ_typing_statements.specs.declared.exchange_tree.TypedTarget.{TypedTarget}
use Rattle.occ_typing_statements.specs.declared.exchange_tree.TypedTarget.TheVariants as target
use Rattle.occ_usage_lines.specs.Forms.{each_uses, form_uses, guard_uses, input_uses, output_uses, outputs_uses, target_uses, targets_uses, used, written}
use Rattle.occ_usage_values.specs.Bounds.{Env}
use Rattle.occ_usage_values.specs.Calls.{made}
use Rattle.occ_usage_values.specs.Views.{ActualView, ElementView, ExprView, SelectorView, actual_view, actual_views, actuals_uses, element_step, element_view, expr_view, expr_views, selector_view, selector_views, selectors_uses}
use Rattle.occ_usage_values.specs.Views as views
use Rattle.occ_usage_values.specs.declared.uses.Use.{Use}
use Rattle.occ_running.specs.Memory.{Has, IsOneOf, Spot, Thread}
use Rattle.occ_running.specs.Running.{specifying}
use Rattle.occ_running.specs.Runs.{Event}
use Rattle.occ_running.specs.Scopes.{Element, Scope, Thing}
use Rattle.occ_running.specs.Works.{Both, Choice, Evaluate, ExprForm, Find, Idle, InTurn, Plan, Reach, SelectorForm, Taken, Together, Waiting, Way, Work, actual_work, block_plan, bounds, choice_plan, evaluate, find, guard_waits, guard_work, input_work, operands, pass, plan, process_plan, receive, receive_all, received, send, send_all, taken_plan, wait_for, waiting_plan}
use Rattle.occ_sound.specs.Agreeing.{Covered, IsAt}
use Rattle.occ_sound.specs.Covering.{CoveredWork, all_used, form_view}
use Rattle.occ_sound.proofs.Forms.{ActualForm, actual_form, actual_opened, element_opened, expr_form, selector_form, selector_opened}
use Rattle.occ_sound.proofs.Knowing.{Good, found_one, raw_value}
use Rattle.occ_sound.proofs.Lists.{in_cases, no_more, some_same}
use Rattle.occ_sound.proofs.Names.{FoundAs}
use Rattle.occ_sound.proofs.Touching.{covered_left, covered_right, made_shared}
use Rattle.occ_typing_operands.specs.declared.kind.Known.{Known}
use Rattle.occ_types.specs.declared.constant.Operator.{Operator}

-- ---- expressions, one after the other

-- an event of an expression is one of the uses of its view
expr_covered : (env : Env) (d : Scope) (t : Thread) (e : TypedExpr) (x : Event) (line : Location) → Covered d t ((form_view (out-TypedExpr e)).uses env line) x → Covered d t ((expr_view e).uses env line) x
expr_covered env d t e x line h = subst (λ (w : ExprView). Covered d t (w.uses env line) x) (sym (expr_form e)) h

pub evaluated_covered : (env : Env) (d : Scope) (t : Thread) (es : List TypedExpr) (x : Event) (line : Location) → CoveredWork (evaluate es) env d t x → Covered d t (each_uses es env line) x
evaluated_covered env d t [] x line h = absurd h
evaluated_covered env d t (e ∷ es) x line (inl h) = covered_left d t ((expr_view e).uses env line) (each_uses es env line) x (expr_covered env d t e x line (h line))
evaluated_covered env d t (e ∷ es) x line (inr h) = covered_right d t ((expr_view e).uses env line) (each_uses es env line) x (evaluated_covered env d t es x line h)

same_each : (es : List TypedExpr) (env : Env) (line : Location) → each_uses es env line ≡ views.each_uses (expr_views es) env line
same_each [] env line = refl
same_each (e ∷ es) env line = ap (λ (us : List Use). (expr_view e).uses env line ++ us) (same_each es env line)

pub operand_uses : (f : ExprForm) (es : List TypedExpr) (env : Env) (line : Location) → operands f ≡ Some es → each_uses es env line ≡ (form_view f).uses env line
operand_uses (TypedExpr-F.Literal k) es env line o = ap (λ (gs : List TypedExpr). each_uses gs env line) (sym (some_same [] es o))
operand_uses (TypedExpr-F.Element el) es env line o = absurd cc
operand_uses (TypedExpr-F.Operation k op gs) es env line o = ap (λ (hs : List TypedExpr). each_uses hs env line) (sym (some_same gs es o)) ∙ same_each gs env line
operand_uses (TypedExpr-F.Applied k op e) es env line o = ap (λ (gs : List TypedExpr). each_uses gs env line) (sym (some_same (e ∷ []) es o)) ∙ no_more ((expr_view e).uses env line)
operand_uses (TypedExpr-F.Size k e) es env line o = absurd cc
operand_uses (TypedExpr-F.Converted k e) es env line o = ap (λ (gs : List TypedExpr). each_uses gs env line) (sym (some_same (e ∷ []) es o)) ∙ no_more ((expr_view e).uses env line)
operand_uses (TypedExpr-F.Table k gs) es env line o = ap (λ (hs : List TypedExpr). each_uses hs env line) (sym (some_same gs es o)) ∙ same_each gs env line
operand_uses (TypedExpr-F.Call k callee actuals) es env line o = absurd cc

pub operands_covered : (env : Env) (d : Scope) (t : Thread) (f : ExprForm) (es : List TypedExpr) (x : Event) → operands f ≡ Some es → CoveredWork (evaluate es) env d t x → CoveredWork (Evaluate f) env d t x
operands_covered env d t f es x o h = λ line. subst (λ (us : List Use). Covered d t us x) (operand_uses f es env line o) (evaluated_covered env d t es x line h)

-- the first of some operands
first_covered : (env : Env) (d : Scope) (t : Thread) (es fs : List TypedExpr) (x : Event) → CoveredWork (evaluate es) env d t x → CoveredWork (evaluate (es ++ fs)) env d t x
first_covered env d t [] fs x h = absurd h
first_covered env d t (e ∷ es) fs x (inl h) = inl h
first_covered env d t (e ∷ es) fs x (inr h) = inr (first_covered env d t es fs x h)

pub decided_covered : (env : Env) (d : Scope) (t : Thread) (k : Known) (op : Operator) (es fs : List TypedExpr) (x : Event) → CoveredWork (evaluate es) env d t x → CoveredWork (Evaluate (TypedExpr-F.Operation k op (es ++ fs))) env d t x
decided_covered env d t k op es fs x h = operands_covered env d t (TypedExpr-F.Operation k op (es ++ fs)) (es ++ fs) x refl (first_covered env d t es fs x h)

-- ---- elements

pub element_covered : (env : Env) (d : Scope) (t : Thread) (el : TypedElement) (x : Event) → ((line : Location) → Covered d t (selectors_uses (selector_views (out-TypedElement el).selectors) env line) x) → CoveredWork (Find el) env d t x
element_covered env d t el x h = λ line. subst (λ (w : ElementView). Covered d t (w.uses env line) x) (sym (element_opened el)) (h line)

pub bound_uses : (f : SelectorForm) (env : Env) (line : Location) → each_uses (bounds f) env line ≡ (selector_form f).uses env line
bound_uses (Selector-F.Field k name) env line = refl
bound_uses (Selector-F.Component e) env line = no_more ((expr_view e).uses env line)
bound_uses (Selector-F.From n e) env line = no_more ((expr_view e).uses env line)
bound_uses (Selector-F.For n e) env line = no_more ((expr_view e).uses env line)
bound_uses (Selector-F.FromFor n e f) env line = ap (λ (us : List Use). (expr_view e).uses env line ++ us) (no_more ((expr_view f).uses env line))

pub bounds_covered : (env : Env) (d : Scope) (t : Thread) (s : Selector) (ss : List Selector) (x : Event) (line : Location) → CoveredWork (evaluate (bounds (out-Selector s))) env d t x
    → Covered d t (selectors_uses (selector_views (s ∷ ss)) env line) x
bounds_covered env d t s ss x line h =
    covered_left d t ((selector_view s).uses env line) (selectors_uses (selector_views ss) env line) x
    (subst (λ (w : SelectorView). Covered d t (w.uses env line) x) (sym (selector_opened s))
    (subst (λ (us : List Use). Covered d t us x) (bound_uses (out-Selector s) env line) (evaluated_covered env d t (bounds (out-Selector s)) x line h)))

pub selected_covered : (env : Env) (d : Scope) (t : Thread) (s : Selector) (ss : List Selector) (x : Event) (line : Location) → Covered d t (selectors_uses (selector_views ss) env line) x
    → Covered d t (selectors_uses (selector_views (s ∷ ss)) env line) x
selected_covered env d t s ss x line h = covered_right d t ((selector_view s).uses env line) (selectors_uses (selector_views ss) env line) x h

-- an element that is read
pub find_covered : (env : Env) (d : Scope) (t : Thread) (el : TypedElement) (x : Event) → CoveredWork (Find el) env d t x → CoveredWork (Evaluate (TypedExpr-F.Element el)) env d t x
find_covered env d t el x h = λ line. covered_left d t ((element_view el).uses env line) (made line kind.Read ((element_view el).place env)) x (h line)

pub read_covered : (env : Env) (d : Scope) (t : Thread) (el : TypedElement) (at : Spot) (n : Option ℤ) (x : Event) → Good env d (Find el) (Element at n ∷ []) → x.kind ≡ kind.Read → Has at x.cell
    → CoveredWork (Evaluate (TypedExpr-F.Element el)) env d t x
read_covered env d t el at n x g k has = λ line.
    covered_right d t ((element_view el).uses env line) (made line kind.Read ((element_view el).place env)) x (inr (made_shared d ((element_view el).place env) line kind.Read at x (found_one env d el (Element at n) g).0 k has))

-- ---- elements that are touched

pub finds_covered : (env : Env) (d : Scope) (t : Thread) (k : UseKind) (els : List TypedElement) (x : Event) (line : Location) → CoveredWork (find els) env d t x → Covered d t (all_used k els env line) x
finds_covered env d t k [] x line h = absurd h
finds_covered env d t k (el ∷ els) x line (inl h) =
    covered_left d t (used k el env line) (all_used k els env line) x (covered_left d t ((element_view el).uses env line) (made line k ((element_view el).place env)) x (h line))
finds_covered env d t k (el ∷ els) x line (inr h) = covered_right d t (used k el env line) (all_used k els env line) x (finds_covered env d t k els x line h)

one_touched : (env : Env) (d : Scope) (t : Thread) (k : UseKind) (el : TypedElement) (els : List TypedElement) (xs ys zs : List Thing) (at : Spot) (n : Option ℤ) (x : Event) (line : Location) → zs ≡ xs ++ ys → Good env d (Find el) xs
    → x.kind ≡ k → Has at x.cell → (IsOneOf ys (Element at n) → Covered d t (all_used k els env line) x) → IsOneOf zs (Element at n) → Covered d t (all_used k (el ∷ els) env line) x
one_touched env d t k el els xs ys zs at n x line same g i has rest among =
    elim (in_cases (Element at n) xs ys (subst (λ (ws : List Thing). IsOneOf ws (Element at n)) same among)) [
      | inl h ↦ covered_left d t (used k el env line) (all_used k els env line) x
          (covered_right d t ((element_view el).uses env line) (made line k ((element_view el).place env)) x (inr (made_shared d ((element_view el).place env) line k at x (here h) i has)))
      | inr h ↦ covered_right d t (used k el env line) (all_used k els env line) x (rest h)
    ]
  where
    here : IsOneOf xs (Element at n) → IsAt d ((element_view el).place env) at
    here h = by_one g.0 g.2 (single (subst (λ (ws : List Thing). IsOneOf ws (Element at n)) g.1 h)) where
      single : IsOneOf (g.0 ∷ []) (Element at n) → Element at n ≡ g.0
      single (inl e) = e
      single (inr e) = absurd e

      by_one : (y : Thing) → FoundAs d ((element_view el).place env) ((element_view el).size env) (raw_value el env) y → Element at n ≡ y → IsAt d ((element_view el).place env) at
      by_one y f e = (subst (λ (z : Thing). FoundAs d ((element_view el).place env) ((element_view el).size env) (raw_value el env) z) (sym e) f).0

pub touch_covered : (env : Env) (d : Scope) (t : Thread) (k : UseKind) (els : List TypedElement) (zs : List Thing) (at : Spot) (n : Option ℤ) (x : Event) (line : Location) → Good env d (find els) zs → x.kind ≡ k → Has at x.cell
    → IsOneOf zs (Element at n) → Covered d t (all_used k els env line) x
touch_covered env d t k [] zs at n x line g i has among = absurd (subst (λ (ws : List Thing). IsOneOf ws (Element at n)) g among)
touch_covered env d t k (el ∷ els) zs at n x line (xs, ys, same, first, rest) i has among =
    one_touched env d t k el els xs ys zs at n x line same first i has (λ h. touch_covered env d t k els ys at n x line rest i has h) among

-- ---- actuals

actual_covered : (env : Env) (d : Scope) (t : Thread) (o : ActualForm) (x : Event) (line : Location) → CoveredWork (actual_work o) env d t x → Covered d t ((actual_form o).uses env line) x
actual_covered env d t (TypedActual-F.Value e) x line h = expr_covered env d t e x line (h line)
actual_covered env d t (TypedActual-F.Variable el) x line h = h line

pub actuals_covered : (env : Env) (d : Scope) (t : Thread) (xs : List TypedActual) (x : Event) (line : Location) → CoveredWork (pass xs) env d t x → Covered d t (actuals_uses (actual_views xs) env line) x
actuals_covered env d t [] x line h = absurd h
actuals_covered env d t (y ∷ ys) x line (inl h) =
    covered_left d t ((actual_view y).uses env line) (actuals_uses (actual_views ys) env line) x
    (subst (λ (w : ActualView). Covered d t (w.uses env line) x) (sym (actual_opened y)) (actual_covered env d t (out-TypedActual y) x line h))
actuals_covered env d t (y ∷ ys) x line (inr h) = covered_right d t ((actual_view y).uses env line) (actuals_uses (actual_views ys) env line) x (actuals_covered env d t ys x line h)

-- ---- what a line does at once

-- of one element that is reached
one_reached : (env : Env) (d : Scope) (t : Thread) (k : UseKind) (el : TypedElement) (x : Event) (line : Location) → CoveredWork (Reach k (el ∷ [])) env d t x → Covered d t (used k el env line) x
one_reached env d t k el x line h = subst (λ (us : List Use). Covered d t us x) (no_more (used k el env line)) (h line)

target_covered : (env : Env) (d : Scope) (t : Thread) (g : TypedTarget) (x : Event) (line : Location) → CoveredWork (receive g) env d t x → Covered d t (target_uses g env line) x
target_covered env d t (target.Single el) x line h = one_reached env d t kind.Write el x line h
target_covered env d t (target.Counted count el) x line (inl h) = covered_left d t (used kind.Write count env line) (used kind.Write el env line) x (one_reached env d t kind.Write count x line h)
target_covered env d t (target.Counted count el) x line (inr h) = covered_right d t (used kind.Write count env line) (used kind.Write el env line) x (one_reached env d t kind.Write el x line h)

targets_covered : (env : Env) (d : Scope) (t : Thread) (ts : List TypedTarget) (x : Event) (line : Location) → CoveredWork (receive_all ts) env d t x → Covered d t (targets_uses ts env line) x
targets_covered env d t [] x line h = absurd h
targets_covered env d t (g ∷ gs) x line (inl h) = covered_left d t (target_uses g env line) (targets_uses gs env line) x (target_covered env d t g x line h)
targets_covered env d t (g ∷ gs) x line (inr h) = covered_right d t (target_uses g env line) (targets_uses gs env line) x (targets_covered env d t gs x line h)

output_covered : (env : Env) (d : Scope) (t : Thread) (o : TypedOutput) (x : Event) (line : Location) → CoveredWork (send o) env d t x → Covered d t (output_uses o env line) x
output_covered env d t (output.Value e) x line h = expr_covered env d t e x line (h line)
output_covered env d t (output.Counted count e) x line (inl h) = covered_left d t ((expr_view count).uses env line) ((expr_view e).uses env line) x (expr_covered env d t count x line (h line))
output_covered env d t (output.Counted count e) x line (inr h) = covered_right d t ((expr_view count).uses env line) ((expr_view e).uses env line) x (expr_covered env d t e x line (h line))
output_covered env d t (output.Tag place name) x line h = absurd h

outputs_covered : (env : Env) (d : Scope) (t : Thread) (os : List TypedOutput) (x : Event) (line : Location) → CoveredWork (send_all os) env d t x → Covered d t (outputs_uses os env line) x
outputs_covered env d t [] x line h = absurd h
outputs_covered env d t (o ∷ os) x line (inl h) = covered_left d t (output_uses o env line) (outputs_uses os env line) x (output_covered env d t o x line h)
outputs_covered env d t (o ∷ os) x line (inr h) = covered_right d t (output_uses o env line) (outputs_uses os env line) x (outputs_covered env d t os x line h)

waited_covered : (env : Env) (d : Scope) (t : Thread) (i : TypedInput) (x : Event) (line : Location) → CoveredWork (wait_for i) env d t x → Covered d t (input_uses i env line) x
waited_covered env d t (input.Plain el ts) x line h = covered_left d t (used kind.Input el env line) (targets_uses ts env line) x (one_reached env d t kind.Input el x line h)
waited_covered env d t (input.Time el g) x line h = covered_left d t (used kind.Input el env line) (used kind.Write g env line) x (one_reached env d t kind.Input el x line h)
waited_covered env d t (input.After el e) x line (inl h) = covered_left d t (used kind.Input el env line) ((expr_view e).uses env line) x (one_reached env d t kind.Input el x line h)
waited_covered env d t (input.After el e) x line (inr h) = covered_right d t (used kind.Input el env line) ((expr_view e).uses env line) x (expr_covered env d t e x line (h line))
waited_covered env d t (input.Tagged el place name ts) x line h = covered_left d t (used kind.Input el env line) (targets_uses ts env line) x (one_reached env d t kind.Input el x line h)

received_covered : (env : Env) (d : Scope) (t : Thread) (i : TypedInput) (x : Event) (line : Location) → CoveredWork (received i) env d t x → Covered d t (input_uses i env line) x
received_covered env d t (input.Plain el ts) x line h = covered_right d t (used kind.Input el env line) (targets_uses ts env line) x (targets_covered env d t ts x line h)
received_covered env d t (input.Time el g) x line h = covered_right d t (used kind.Input el env line) (used kind.Write g env line) x (one_reached env d t kind.Write g x line h)
received_covered env d t (input.After el e) x line h = absurd h
received_covered env d t (input.Tagged el place name ts) x line h = covered_right d t (used kind.Input el env line) (targets_uses ts env line) x (targets_covered env d t ts x line h)

input_covered : (env : Env) (d : Scope) (t : Thread) (i : TypedInput) (x : Event) (line : Location) → CoveredWork (input_work i) env d t x → Covered d t (input_uses i env line) x
input_covered env d t i x line (inl h) = waited_covered env d t i x line h
input_covered env d t i x line (inr h) = received_covered env d t i x line h

guard_waited : (env : Env) (d : Scope) (t : Thread) (g : TypedGuard) (x : Event) (line : Location) → CoveredWork (guard_waits g) env d t x → Covered d t (guard_uses g env line) x
guard_waited env d t guard.Skip x line h = absurd h
guard_waited env d t (guard.Input i) x line h = waited_covered env d t i x line h
guard_waited env d t (guard.CaseInput el) x line h = one_reached env d t kind.Input el x line h

guard_covered : (env : Env) (d : Scope) (t : Thread) (g : TypedGuard) (x : Event) (line : Location) → CoveredWork (guard_work g) env d t x → Covered d t (guard_uses g env line) x
guard_covered env d t guard.Skip x line h = absurd h
guard_covered env d t (guard.Input i) x line h = input_covered env d t i x line h
guard_covered env d t (guard.CaseInput el) x line h = one_reached env d t kind.Input el x line h

pub same_written : (els : List TypedElement) (env : Env) (line : Location) → all_used kind.Write els env line ≡ written els env line
same_written [] env line = refl
same_written (el ∷ els) env line = ap (λ (us : List Use). used kind.Write el env line ++ us) (same_written els env line)

assigned : (env : Env) (d : Scope) (t : Thread) (els : List TypedElement) (es : List TypedExpr) (x : Event) (line : Location) → CoveredWork (Both (evaluate es) (Reach kind.Write els)) env d t x
    → Covered d t (form_uses (form.Assignment els es) env line) x
assigned env d t els es x line (inl h) = covered_left d t (each_uses es env line) (written els env line) x (evaluated_covered env d t es x line h)
assigned env d t els es x line (inr h) = covered_right d t (each_uses es env line) (written els env line) x (subst (λ (us : List Use). Covered d t us x) (same_written els env line) (h line))

sent : (env : Env) (d : Scope) (t : Thread) (el : TypedElement) (os : List TypedOutput) (x : Event) (line : Location) → CoveredWork (Both (send_all os) (Reach kind.Output (el ∷ []))) env d t x
    → Covered d t (form_uses (form.Output el os) env line) x
sent env d t el os x line (inl h) = covered_right d t (used kind.Output el env line) (outputs_uses os env line) x (outputs_covered env d t os x line h)
sent env d t el os x line (inr h) = covered_left d t (used kind.Output el env line) (outputs_uses os env line) x (one_reached env d t kind.Output el x line h)

guard_awaited : (env : Env) (d : Scope) (t : Thread) (e : TypedExpr) (g : TypedGuard) (x : Event) (line : Location) → CoveredWork (Both (Evaluate (out-TypedExpr e)) (guard_waits g)) env d t x → Covered d t (form_uses (form.Guard e g) env line) x
guard_awaited env d t e g x line (inl h) = covered_left d t ((expr_view e).uses env line) (guard_uses g env line) x (expr_covered env d t e x line (h line))
guard_awaited env d t e g x line (inr h) = covered_right d t ((expr_view e).uses env line) (guard_uses g env line) x (guard_waited env d t g x line h)

-- the work of a plan
abbrev PlannedBy : Option Plan → TypedForm → Env → Scope → Thread → Event → Type 0
PlannedBy None f env d t x = Unit {0}
PlannedBy (Some p) f env d t x = CoveredWork p.0 env d t x → (line : Location) → Covered d t (form_uses f env line) x

planned_block : (env : Env) (d : Scope) (t : Thread) (k : BlockKind) (f : TypedForm) (x : Event) → PlannedBy (block_plan k) f env d t x
planned_block env d t block.Sequence f x = λ h line. absurd h
planned_block env d t block.Parallel f x = λ h line. absurd h
planned_block env d t block.Conditional f x = λ h line. absurd h
planned_block env d t block.Alternation f x = tt

planned_process : (env : Env) (d : Scope) (t : Thread) (f : TypedForm) (x : Event) → PlannedBy (process_plan f) f env d t x
planned_process env d t form.Declaration x = tt
planned_process env d t form.DataType x = tt
planned_process env d t form.Protocol x = tt
planned_process env d t form.ProcedureHead x = tt
planned_process env d t form.FunctionHead x = tt
planned_process env d t form.RecordHead x = tt
planned_process env d t form.ProtocolHead x = tt
planned_process env d t form.Member x = tt
planned_process env d t form.Close x = tt
planned_process env d t form.Skip x = λ h line. absurd h
planned_process env d t form.Stop x = tt
planned_process env d t form.Otherwise x = tt
planned_process env d t form.ValueOf x = λ h line. absurd h
planned_process env d t form.Unknown x = tt
planned_process env d t (form.Abbreviation el) x = tt
planned_process env d t (form.Retyped el) x = tt
planned_process env d t (form.Value e) x = tt
planned_process env d t (form.RetypedValue e) x = tt
planned_process env d t (form.OneLineFunction formals results) x = tt
planned_process env d t (form.Uses interfaces) x = tt
planned_process env d t (form.Assignment els es) x = λ h line. assigned env d t els es x line h
planned_process env d t (form.Output el os) x = λ h line. sent env d t el os x line h
planned_process env d t (form.Input i) x = λ h line. input_covered env d t i x line h
planned_process env d t (form.Instance callee actuals) x = λ h line. h line
planned_process env d t (form.Block k r) x = planned_block env d t k (form.Block k r) x
planned_process env d t (form.While e) x = tt
planned_process env d t (form.Selection e) x = λ h line. expr_covered env d t e x line (h line)
planned_process env d t (form.CaseInput el) x = λ h line. one_reached env d t kind.Input el x line h
planned_process env d t (form.Condition e) x = tt
planned_process env d t (form.Options es) x = tt
planned_process env d t (form.Guard e g) x = tt
planned_process env d t (form.Variant place tag ts) x = tt
planned_process env d t (form.Results es) x = λ h line. evaluated_covered env d t es x line h

planned_choice : (env : Env) (d : Scope) (t : Thread) (f : TypedForm) (x : Event) → PlannedBy (choice_plan f) f env d t x
planned_choice env d t form.Declaration x = tt
planned_choice env d t form.DataType x = tt
planned_choice env d t form.Protocol x = tt
planned_choice env d t form.ProcedureHead x = tt
planned_choice env d t form.FunctionHead x = tt
planned_choice env d t form.RecordHead x = tt
planned_choice env d t form.ProtocolHead x = tt
planned_choice env d t form.Member x = tt
planned_choice env d t form.Close x = tt
planned_choice env d t form.Skip x = tt
planned_choice env d t form.Stop x = tt
planned_choice env d t form.Otherwise x = tt
planned_choice env d t form.ValueOf x = tt
planned_choice env d t form.Unknown x = tt
planned_choice env d t (form.Abbreviation el) x = tt
planned_choice env d t (form.Retyped el) x = tt
planned_choice env d t (form.Value e) x = tt
planned_choice env d t (form.RetypedValue e) x = tt
planned_choice env d t (form.OneLineFunction formals results) x = tt
planned_choice env d t (form.Uses interfaces) x = tt
planned_choice env d t (form.Assignment els es) x = tt
planned_choice env d t (form.Output el os) x = tt
planned_choice env d t (form.Input i) x = tt
planned_choice env d t (form.Instance callee actuals) x = tt
planned_choice env d t (form.Block block.Sequence r) x = tt
planned_choice env d t (form.Block block.Parallel r) x = tt
planned_choice env d t (form.Block block.Conditional r) x = λ h line. absurd h
planned_choice env d t (form.Block block.Alternation r) x = tt
planned_choice env d t (form.While e) x = tt
planned_choice env d t (form.Selection e) x = tt
planned_choice env d t (form.CaseInput el) x = tt
planned_choice env d t (form.Condition e) x = tt
planned_choice env d t (form.Options es) x = tt
planned_choice env d t (form.Guard e g) x = tt
planned_choice env d t (form.Variant place tag ts) x = tt
planned_choice env d t (form.Results es) x = tt

planned_waiting : (env : Env) (d : Scope) (t : Thread) (f : TypedForm) (x : Event) → PlannedBy (waiting_plan f) f env d t x
planned_waiting env d t form.Declaration x = tt
planned_waiting env d t form.DataType x = tt
planned_waiting env d t form.Protocol x = tt
planned_waiting env d t form.ProcedureHead x = tt
planned_waiting env d t form.FunctionHead x = tt
planned_waiting env d t form.RecordHead x = tt
planned_waiting env d t form.ProtocolHead x = tt
planned_waiting env d t form.Member x = tt
planned_waiting env d t form.Close x = tt
planned_waiting env d t form.Skip x = tt
planned_waiting env d t form.Stop x = tt
planned_waiting env d t form.Otherwise x = tt
planned_waiting env d t form.ValueOf x = tt
planned_waiting env d t form.Unknown x = tt
planned_waiting env d t (form.Abbreviation el) x = tt
planned_waiting env d t (form.Retyped el) x = tt
planned_waiting env d t (form.Value e) x = tt
planned_waiting env d t (form.RetypedValue e) x = tt
planned_waiting env d t (form.OneLineFunction formals results) x = tt
planned_waiting env d t (form.Uses interfaces) x = tt
planned_waiting env d t (form.Assignment els es) x = tt
planned_waiting env d t (form.Output el os) x = tt
planned_waiting env d t (form.Input i) x = λ h line. waited_covered env d t i x line h
planned_waiting env d t (form.Instance callee actuals) x = tt
planned_waiting env d t (form.Block block.Sequence r) x = tt
planned_waiting env d t (form.Block block.Parallel r) x = tt
planned_waiting env d t (form.Block block.Conditional r) x = tt
planned_waiting env d t (form.Block block.Alternation r) x = λ h line. absurd h
planned_waiting env d t (form.While e) x = tt
planned_waiting env d t (form.Selection e) x = tt
planned_waiting env d t (form.CaseInput el) x = λ h line. one_reached env d t kind.Input el x line h
planned_waiting env d t (form.Condition e) x = tt
planned_waiting env d t (form.Options es) x = tt
planned_waiting env d t (form.Guard e g) x = λ h line. guard_awaited env d t e g x line h
planned_waiting env d t (form.Variant place tag ts) x = tt
planned_waiting env d t (form.Results es) x = tt

planned_taken : (env : Env) (d : Scope) (t : Thread) (f : TypedForm) (x : Event) → PlannedBy (taken_plan f) f env d t x
planned_taken env d t form.Declaration x = tt
planned_taken env d t form.DataType x = tt
planned_taken env d t form.Protocol x = tt
planned_taken env d t form.ProcedureHead x = tt
planned_taken env d t form.FunctionHead x = tt
planned_taken env d t form.RecordHead x = tt
planned_taken env d t form.ProtocolHead x = tt
planned_taken env d t form.Member x = tt
planned_taken env d t form.Close x = tt
planned_taken env d t form.Skip x = tt
planned_taken env d t form.Stop x = tt
planned_taken env d t form.Otherwise x = λ h line. absurd h
planned_taken env d t form.ValueOf x = tt
planned_taken env d t form.Unknown x = tt
planned_taken env d t (form.Abbreviation el) x = tt
planned_taken env d t (form.Retyped el) x = tt
planned_taken env d t (form.Value e) x = tt
planned_taken env d t (form.RetypedValue e) x = tt
planned_taken env d t (form.OneLineFunction formals results) x = tt
planned_taken env d t (form.Uses interfaces) x = tt
planned_taken env d t (form.Assignment els es) x = tt
planned_taken env d t (form.Output el os) x = tt
planned_taken env d t (form.Input i) x = λ h line. input_covered env d t i x line h
planned_taken env d t (form.Instance callee actuals) x = tt
planned_taken env d t (form.Block block.Sequence r) x = tt
planned_taken env d t (form.Block block.Parallel r) x = tt
planned_taken env d t (form.Block block.Conditional r) x = tt
planned_taken env d t (form.Block block.Alternation r) x = λ h line. absurd h
planned_taken env d t (form.While e) x = tt
planned_taken env d t (form.Selection e) x = tt
planned_taken env d t (form.CaseInput el) x = λ h line. one_reached env d t kind.Input el x line h
planned_taken env d t (form.Condition e) x = tt
planned_taken env d t (form.Options es) x = λ h line. absurd h
planned_taken env d t (form.Guard e g) x = λ h line. covered_right d t ((expr_view e).uses env line) (guard_uses g env line) x (guard_covered env d t g x line h)
planned_taken env d t (form.Variant place tag ts) x = λ h line. targets_covered env d t ts x line h
planned_taken env d t (form.Results es) x = tt

planned : (env : Env) (d : Scope) (t : Thread) (way : Way) (f : TypedForm) (x : Event) → PlannedBy (plan way f) f env d t x
planned env d t InTurn f x = planned_process env d t f x
planned env d t Together f x = planned_process env d t f x
planned env d t Choice f x = planned_choice env d t f x
planned env d t Waiting f x = planned_waiting env d t f x
planned env d t Taken f x = planned_taken env d t f x
planned env d t Idle f x = tt

pub plan_covered : (env : Env) (d : Scope) (t : Thread) (way next : Way) (f : TypedForm) (w : Work) (x : Event) → plan way f ≡ Some (w, next) → CoveredWork w env d t x → (line : Location) → Covered d t (form_uses f env line) x
plan_covered env d t way next f w x h k = (subst (λ (o : Option Plan). PlannedBy o f env d t x) h (planned env d t way f x)) k

-- ---- specifications

pub specifying_covered : (env : Env) (d : Scope) (t : Thread) (f : TypedForm) (x : Event) (line : Location) → CoveredWork (specifying f) env d t x → Covered d t (form_uses f env line) x
specifying_covered env d t form.Declaration x line h = absurd h
specifying_covered env d t form.DataType x line h = absurd h
specifying_covered env d t form.Protocol x line h = absurd h
specifying_covered env d t form.ProcedureHead x line h = absurd h
specifying_covered env d t form.FunctionHead x line h = absurd h
specifying_covered env d t form.RecordHead x line h = absurd h
specifying_covered env d t form.ProtocolHead x line h = absurd h
specifying_covered env d t form.Member x line h = absurd h
specifying_covered env d t form.Close x line h = absurd h
specifying_covered env d t form.Skip x line h = absurd h
specifying_covered env d t form.Stop x line h = absurd h
specifying_covered env d t form.Otherwise x line h = absurd h
specifying_covered env d t form.ValueOf x line h = absurd h
specifying_covered env d t form.Unknown x line h = absurd h
specifying_covered env d t (form.Abbreviation el) x line h = h line
specifying_covered env d t (form.Retyped el) x line h = h line
specifying_covered env d t (form.Value e) x line h = expr_covered env d t e x line (h line)
specifying_covered env d t (form.RetypedValue e) x line h = expr_covered env d t e x line (h line)
specifying_covered env d t (form.OneLineFunction formals results) x line h = absurd h
specifying_covered env d t (form.Uses interfaces) x line h = absurd h
specifying_covered env d t (form.Assignment els es) x line h = absurd h
specifying_covered env d t (form.Output el os) x line h = absurd h
specifying_covered env d t (form.Input i) x line h = absurd h
specifying_covered env d t (form.Instance callee actuals) x line h = absurd h
specifying_covered env d t (form.Block k r) x line h = absurd h
specifying_covered env d t (form.While e) x line h = absurd h
specifying_covered env d t (form.Selection e) x line h = absurd h
specifying_covered env d t (form.CaseInput el) x line h = absurd h
specifying_covered env d t (form.Condition e) x line h = absurd h
specifying_covered env d t (form.Options es) x line h = absurd h
specifying_covered env d t (form.Guard e g) x line h = absurd h
specifying_covered env d t (form.Variant place tag ts) x line h = absurd h
specifying_covered env d t (form.Results es) x line h = absurd h
