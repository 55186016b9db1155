-- What is run is ready to run without a race: nothing is told of it, and names that it uses share no cell.
use Rattle.std.proofs.Common.{◌≡◌, ◌<◌, ℕ, zero, suc, Bool, true, false, ap, sym, subst, ◌∙◌, refl, arith, List, [], ◌∷◌, ◌++◌, Option, Some, None, inl, inr, length}
use Rattle.std.specs.Prelude.{◌==◌, nat_lt, slice_get, if◌then◌else◌}
use Rattle.occ_project.specs.declared.expanded.Location.{Location}
use Rattle.occ_types.specs.declared.interface.UseKind.{UseKind}
use Rattle.occ_types.specs.declared.interface.UseKind.TheVariants as kind
use Rattle.occ_typing.specs.declared.tree.TypedLine.{TypedLine, out-TypedLine}
use Rattle.occ_typing_lines.specs.declared.tree.BlockKind.{BlockKind}
use Rattle.occ_typing_lines.specs.declared.tree.BlockKind.TheVariants as block
use Rattle.occ_typing_lines.specs.declared.tree.TypedForm.{TypedForm}
use Rattle.occ_typing_lines.specs.declared.tree.TypedForm.TheVariants as form
use Rattle.occ_typing_lines.specs.declared.tree.TypedGuard.{TypedGuard}
use Rattle.occ_typing_lines.specs.declared.tree.TypedGuard.TheVariants as guard
use Rattle.occ_typing_rules.specs.declared.expr.Selector.{Selector, out-Selector}
use Rattle.occ_typing_rules.specs.declared.expr.Selector.TheOpen.{Selector-F, TypedActual-F, TypedExpr-F}
use Rattle.occ_typing_rules.specs.declared.expr.TypedActual.{TypedActual, out-TypedActual}
use Rattle.occ_typing_rules.specs.declared.expr.TypedElement.{TypedElement, out-TypedElement}
use Rattle.occ_typing_rules.specs.declared.expr.TypedExpr.{TypedExpr, out-TypedExpr}
use Rattle.occ_typing_statements.specs.declared.exchange_tree.TypedInput.{TypedInput}
use Rattle.occ_typing_statements.specs.declared.exchange_tree.TypedInput.TheVariants as input
use Rattle.occ_typing_statements.specs.declared.exchange_tree.TypedOutput.{TypedOutput}
use Rattle.occ_typing_statements.specs.declared.exchange_tree.TypedOutput.TheVariants as output
use Rattle.occ_typing_statements.specs.declared.exchange_tree.TypedTarget.{TypedTarget}
use Rattle.occ_typing_statements.specs.declared.exchange_tree.TypedTarget.TheVariants as target
use Rattle.occ_usage_lines.specs.Forms.{each_uses, form_uses, guard_uses, input_uses, output_uses, outputs_uses, target_uses, targets_uses, used, written}
use Rattle.occ_usage_values.specs.Bounds.{Env}
use Rattle.occ_usage_values.specs.Calls.{made}
use Rattle.occ_usage_values.specs.Views.{ActualView, ElementView, ExprView, SelectorView, actual_view, actual_views, actuals_uses, element_step, element_view, expr_view, expr_views, selector_view, selector_views, selectors_uses}
use Rattle.occ_usage_values.specs.Views as views
use Rattle.occ_usage_values.specs.declared.uses.Use.{Use}
use Rattle.occ_running.specs.Memory.{IsOneOf}
use Rattle.occ_running.specs.Running.{specifying}
use Rattle.occ_running.specs.Scopes.{Scope, Thing}
use Rattle.occ_running.specs.Works.{Both, Call, Choice, Evaluate, ExprForm, Find, Idle, InTurn, Item, Main, Nothing, Pieces, Plan, Reach, Select, SelectorForm, Specify, Taken, Together, Under, Waiting, Way, Work, actual_work, block_plan, bounds, choice_plan, evaluate, find, guard_waits, guard_work, operands, pass, plan, process_plan, receive, receive_all, received, send, send_all, taken_plan, wait_for, waiting_plan}
use Rattle.occ_sound.specs.Covering.{all_used, form_view}
use Rattle.occ_sound.proofs.Forms.{ActualForm, actual_form, actual_opened, element_opened, expr_form, selector_form, selector_opened}
use Rattle.occ_sound.proofs.Lines.{bound_uses, operand_uses, same_written}
use Rattle.occ_sound.proofs.Lists.{no_more, some_same}
use Rattle.occ_alias.specs.AbbreviationRule.{actual_faults, actuals_faults, call_faults, calls_faults, evaluated_faults, free_fault, free_faults, graded, pair_faults, place_pairs, reported_with, scope_faults, written_faults}
use Rattle.occ_alias.specs.LineCalls.{each_calls, elements_calls, form_calls, guard_calls, input_calls, output_calls, outputs_calls, target_calls, targets_calls}
use Rattle.occ_base.specs.declared.code.Code.TheVariants as code
use Rattle.occ_base.specs.declared.diag.Diag.{Diag}
use Rattle.occ_usage.specs.AbbreviationRule.{abbreviation_at}
use Rattle.occ_usage.specs.Effect.{is_body}
use Rattle.occ_usage.specs.Lines.{components, items_of}
use Rattle.occ_usage.specs.ParallelRule.{block_faults, own_faults, parallel_at}
use Rattle.occ_usage.specs.Trees.{head_of, trees_of, under}
use Rattle.occ_usage.specs.Walk.{Finding, Rule as WalkRule, line_reported, reported, under_reported}
use Rattle.occ_usage_conflicts.specs.Components.{joined}
use Rattle.occ_usage_conflicts.specs.ParallelRule.{below, component_faults, fault_if, root_fault, root_faults, root_name, some_clash}
use Rattle.occ_usage_conflicts.specs.declared.rule.Least.TheVariants as least
use Rattle.occ_usage_conflicts.specs.declared.rule.Rule.{Rule}
use Rattle.occ_usage_conflicts.specs.declared.rule.Rule.TheVariants as rule
use Rattle.occ_usage_parts.specs.Parts.{overlap_of}
use Rattle.occ_usage_parts.specs.Selecting.{part_of}
use Rattle.occ_usage_parts.specs.declared.part.Overlap.{Overlap}
use Rattle.occ_usage_parts.specs.declared.part.Overlap.TheVariants as o
use Rattle.occ_usage_parts.specs.declared.part.Part.{Part}
use Rattle.occ_usage_parts.specs.declared.place.SelectedPart.{SelectedPart}
use Rattle.occ_usage_values.specs.Bounds.{body_of}
use Rattle.occ_usage_values.specs.Views.{actuals_calls, call_at, call_calls, call_uses, called_uses, places_of, selectors_calls}
use Rattle.occ_usage_values.specs.declared.bound.Bound.{Bound}
use Rattle.occ_usage_values.specs.Calls.{Call as ACall}
use Rattle.occ_running.specs.Works.{Piece}
use Rattle.occ_sound.specs.Covering.{AreIndices, item_uses}
use Rattle.occ_sound.specs.Safe.{IsClean, IsSilent, NoClash, Separate}
use Rattle.occ_sound.proofs.Items.{own_uses, planned_no_body, under_in_line}
use Rattle.occ_sound.proofs.Keeping.{NoAlias, same_number, separate_alike, separate_left, separate_right}
use Rattle.occ_typing_operands.specs.declared.kind.Known.{Known}
use Rattle.occ_types.specs.declared.constant.Operator.{Operator}

-- ---- silence

pub silent_left : (xs ys : List Diag) → IsSilent (xs ++ ys) → IsSilent xs
silent_left [] ys h = tt
silent_left (x ∷ xs) ys h = (h.0, silent_left xs ys h.1)

pub silent_right : (xs ys : List Diag) → IsSilent (xs ++ ys) → IsSilent ys
silent_right [] ys h = h
silent_right (x ∷ xs) ys h = silent_right xs ys h.1

-- ---- calls

abbrev pub AreQuiet : Location → Env → List ACall → Type 0
AreQuiet line env cs = IsSilent (calls_faults line env cs)

quiet_left : (line : Location) (env : Env) (cs ds : List ACall) → AreQuiet line env (cs ++ ds) → AreQuiet line env cs
quiet_left line env [] ds h = tt
quiet_left line env (c ∷ cs) ds h = both (call_faults line env c) (calls_faults line env cs) (silent_left (call_faults line env c) (calls_faults line env (cs ++ ds)) h) (quiet_left line env cs ds (silent_right (call_faults line env c) (calls_faults line env (cs ++ ds)) h)) where
  both : (xs ys : List Diag) → IsSilent xs → IsSilent ys → IsSilent (xs ++ ys)
  both [] ys a e = e
  both (x ∷ xs) ys a e = (a.0, both xs ys a.1 e)

quiet_right : (line : Location) (env : Env) (cs ds : List ACall) → AreQuiet line env (cs ++ ds) → AreQuiet line env ds
quiet_right line env [] ds h = h
quiet_right line env (c ∷ cs) ds h = quiet_right line env cs ds (silent_right (call_faults line env c) (calls_faults line env (cs ++ ds)) h)

graded_apart : (line : Location) (name : Option (List ℕ)) (v : Overlap) → IsSilent (graded line code.A4 name v) → v ≡ o.Apart
graded_apart line name o.Apart h = refl
graded_apart line name o.May h = absurd h.0
graded_apart line name o.Must h = absurd h.0

pairs_apart : (line : Location) (env : Env) (p : Part) (qs : List (Option SelectedPart)) (j : ℕ) (q : SelectedPart) → IsSilent (place_pairs line env p qs) → slice_get qs j ≡ Some (Some q) → overlap_of p (part_of q) ≡ o.Apart
pairs_apart line env p [] j q h e = cc
pairs_apart line env p (None ∷ qs) zero q h e = cc
pairs_apart line env p (None ∷ qs) (suc j) q h e = pairs_apart line env p qs j q h e
pairs_apart line env p (Some x ∷ qs) zero q h e =
    subst (λ (z : SelectedPart). overlap_of p (part_of z) ≡ o.Apart) (same x q e) (graded_apart line (root_name env p.root) (overlap_of p (part_of x)) (silent_left (pair_faults line code.A4 env p (part_of x)) (place_pairs line env p qs) h)) where
      same : (y z : SelectedPart) → Some (Some y) ≡ Some (Some z) → y ≡ z
      same y z k = cc
pairs_apart line env p (Some x ∷ qs) (suc j) q h e = pairs_apart line env p qs j q (silent_right (pair_faults line code.A4 env p (part_of x)) (place_pairs line env p qs) h) e

free_if : (line : Location) (n : ℕ) (env : Env) (p : Part) (u : Use) (t : Bool) → nat_lt u.part.root n ≡ t → u.part.root < n → IsSilent (if t then pair_faults line code.A4 env p u.part else []) → overlap_of p u.part ≡ o.Apart
free_if line n env p u true e l h = graded_apart line (root_name env p.root) (overlap_of p u.part) h
free_if line n env p u false e l h = absurd (grind (arith, e, l))

free_apart : (line : Location) (n : ℕ) (env : Env) (p : Part) (us : List Use) (u : Use) → IsSilent (free_faults line n env p us) → IsOneOf us u → u.part.root < n → overlap_of p u.part ≡ o.Apart
free_apart line n env p [] u h i l = absurd i
free_apart line n env p (v ∷ us) u h (inl e) l =
    free_if line n env p u (nat_lt u.part.root n) refl l (subst (λ (z : Use). IsSilent (free_fault line n env p z)) (sym e) (silent_left (free_fault line n env p v) (free_faults line n env p us) h))
free_apart line n env p (v ∷ us) u h (inr i) l = free_apart line n env p us u (silent_right (free_fault line n env p v) (free_faults line n env p us) h) i l

actual_apart : (line : Location) (n : ℕ) (env : Env) (us : List Use) (x : Option SelectedPart) (p : SelectedPart) (qs : List (Option SelectedPart)) → x ≡ Some p → IsSilent (actual_faults line n env us x qs)
    → IsSilent (place_pairs line env (part_of p) qs) × IsSilent (free_faults line n env (part_of p) us)
actual_apart line n env us x p qs e h =
    let g = subst (λ (z : Option SelectedPart). IsSilent (actual_faults line n env us z qs)) e h in
    (silent_left (place_pairs line env (part_of p) qs) (free_faults line n env (part_of p) us) g, silent_right (place_pairs line env (part_of p) qs) (free_faults line n env (part_of p) us) g)

all_apart : (line : Location) (n : ℕ) (env : Env) (us : List Use) (ps : List (Option SelectedPart)) → IsSilent (actuals_faults line n env us ps) → (i j : ℕ) (p q : SelectedPart) → i < j → slice_get ps i ≡ Some (Some p) → slice_get ps j ≡ Some (Some q)
    → overlap_of (part_of p) (part_of q) ≡ o.Apart
all_apart line n env us [] h i j p q l a c = cc
all_apart line n env us (x ∷ ps) h i zero p q l a c = absurd (omega (arith, l))
all_apart line n env us (x ∷ ps) h zero (suc j) p q l a c =
    pairs_apart line env (part_of p) ps j q (actual_apart line n env us x p ps (some_same x (Some p) a) (silent_left (actual_faults line n env us x ps) (actuals_faults line n env us ps) h)).0 c
all_apart line n env us (x ∷ ps) h (suc i) (suc j) p q l a c = all_apart line n env us ps (silent_right (actual_faults line n env us x ps) (actuals_faults line n env us ps) h) i j p q (let k : suc i < suc j = l in omega (arith, k)) a c

all_free : (line : Location) (n : ℕ) (env : Env) (us : List Use) (ps : List (Option SelectedPart)) → IsSilent (actuals_faults line n env us ps) → (i : ℕ) (p : SelectedPart) (u : Use) → slice_get ps i ≡ Some (Some p) → IsOneOf us u → u.part.root < n
    → overlap_of (part_of p) u.part ≡ o.Apart
all_free line n env us [] h i p u a m l = cc
all_free line n env us (x ∷ ps) h zero p u a m l =
    free_apart line n env (part_of p) us u (actual_apart line n env us x p ps (some_same x (Some p) a) (silent_left (actual_faults line n env us x ps) (actuals_faults line n env us ps) h)).1 m l
all_free line n env us (x ∷ ps) h (suc i) p u a m l = all_free line n env us ps (silent_right (actual_faults line n env us x ps) (actuals_faults line n env us ps) h) i p u a m l

pub no_alias : (line : Location) (env : Env) (c : ACall) → AreQuiet line env (c ∷ []) → NoAlias c.callee c.places (body_of (slice_get env c.callee))
no_alias line env c h =
    let us = body_of (slice_get env c.callee) in
    let own = silent_left (actuals_faults line c.callee env us c.places) (written_faults code.A4 env c.uses c.reads) (silent_left (call_faults line env c) [] h) in
    record { actuals = all_apart line c.callee env us c.places own; free = all_free line c.callee env us c.places own }

-- ---- components

if_silent : (r : Rule) (line : Location) (env : List Bound) (root : ℕ) (t : Bool) → IsSilent (fault_if t r line env root) → t ≡ false
if_silent rule.Written line env root true h = absurd h.0
if_silent rule.Input line env root true h = absurd h.0
if_silent rule.Output line env root true h = absurd h.0
if_silent r line env root false h = refl

root_silent : (line : Location) (env : List Bound) (comps : List (List Use)) (root : ℕ) → IsSilent (root_faults line env comps root) → (r : Rule) → some_clash r least.May root comps ≡ false
root_silent line env comps root h rule.Written =
    if_silent rule.Written line env root (some_clash rule.Written least.May root comps)
    (silent_left (root_fault rule.Written least.May line env comps root) (root_fault rule.Input least.May line env comps root)
    (silent_left (root_fault rule.Written least.May line env comps root ++ root_fault rule.Input least.May line env comps root) (root_fault rule.Output least.May line env comps root) h))
root_silent line env comps root h rule.Input =
    if_silent rule.Input line env root (some_clash rule.Input least.May root comps)
    (silent_right (root_fault rule.Written least.May line env comps root) (root_fault rule.Input least.May line env comps root)
    (silent_left (root_fault rule.Written least.May line env comps root ++ root_fault rule.Input least.May line env comps root) (root_fault rule.Output least.May line env comps root) h))
root_silent line env comps root h rule.Output =
    if_silent rule.Output line env root (some_clash rule.Output least.May root comps)
    (silent_right (root_fault rule.Written least.May line env comps root ++ root_fault rule.Input least.May line env comps root) (root_fault rule.Output least.May line env comps root) h)

below_by : (n : ℕ) (f : ℕ → List Diag) (root : ℕ) (t : Bool) → (root == n) ≡ t → root < suc n → (root < n → IsSilent (f root)) → IsSilent (f n) → IsSilent (f root)
below_by n f root true e l before last = subst (λ (k : ℕ). IsSilent (f k)) (sym (same_number root n e)) last
below_by n f root false e l before last = before (let u : (root == n) ≡ false = e in grind (arith, l, u))

below_silent : (n : ℕ) (f : ℕ → List Diag) (root : ℕ) → IsSilent (below n f) → root < n → IsSilent (f root)
below_silent zero f root h l = absurd (omega (arith, l))
below_silent (suc n) f root h l = below_by n f root (root == n) refl l (λ k. below_silent n f root (silent_left (below n f) (f n) h) k) (silent_right (below n f) (f n) h)

pub no_clash : (line : Location) (env : List Bound) (comps : List (List Use)) → IsSilent (component_faults line env comps) → NoClash (length env) comps
no_clash line env comps h r root l = root_silent line env comps root (below_silent (length env) (root_faults line env comps) root h l) r

-- ---- ready

abbrev pub IsReady : Scope → Location → Env → List Use → List ACall → Type 0
IsReady d line env us cs = Separate d us × AreQuiet line env cs

ready_left : (d : Scope) (line : Location) (env : Env) (us vs : List Use) (cs ds : List ACall) → IsReady d line env (us ++ vs) (cs ++ ds) → IsReady d line env us cs
ready_left d line env us vs cs ds h = (separate_left d us vs h.0, quiet_left line env cs ds h.1)

ready_right : (d : Scope) (line : Location) (env : Env) (us vs : List Use) (cs ds : List ACall) → IsReady d line env (us ++ vs) (cs ++ ds) → IsReady d line env vs ds
ready_right d line env us vs cs ds h = (separate_right d us vs h.0, quiet_right line env cs ds h.1)

ready_found : (d : Scope) (line : Location) (env : Env) (us vs : List Use) (cs : List ACall) → IsReady d line env (us ++ vs) cs → IsReady d line env us cs
ready_found d line env us vs cs h = (separate_left d us vs h.0, h.1)

ready_same : (d : Scope) (line : Location) (env : Env) (us vs : List Use) (cs ds : List ACall) → us ≡ vs → cs ≡ ds → IsReady d line env us cs → IsReady d line env vs ds
ready_same d line env us vs cs ds e f h = subst (λ (z : List Use). IsReady d line env z ds) e (subst (λ (z : List ACall). IsReady d line env us z) f h)

-- a line, and all under it
abbrev pub IsCleanLine : Env → TypedLine → Type 0
IsCleanLine env l =
    IsSilent (line_reported parallel_at env (head_of l) (under l) (λ (e : Env). reported parallel_at (under l) e e))
    × IsSilent (line_reported abbreviation_at env (head_of l) (under l) (λ (e : Env). reported abbreviation_at (under l) e e))

abbrev pub ClashFree : Way → Env → List (List Use) → Type 0
ClashFree Together env comps = NoClash (length env) comps
ClashFree _ env comps = Unit {0}

abbrev pub ReadyOne : Env → Piece → List Use → Type 0
ReadyOne env p us =
    (bs : List Bound) × AreIndices bs p.index × ((u : Use) → IsOneOf (item_uses (trees_of p.lines) (env ++ bs)) u → IsOneOf us u) × (outer : Env) × IsClean (trees_of p.lines) outer (env ++ bs)

abbrev pub AllReady : Env → List Piece → List (List Use) → Type 0
AllReady env [] comps = Unit {0}
AllReady env (p ∷ ps) [] = ⊥
AllReady env (p ∷ ps) (us ∷ comps) = ReadyOne env p us × AllReady env ps comps

abbrev pub Ready : Work → Env → Scope → Location → Type 0
Ready Nothing env d line = Unit {0}
Ready (Both w u) env d line = Ready w env d line × Ready u env d line
Ready (Evaluate f) env d line = IsReady d line env ((form_view f).uses env line) ((form_view f).calls env line)
Ready (Find el) env d line = IsReady d line env ((element_view el).uses env line) ((element_view el).calls env line)
Ready (Select ss x) env d line = IsReady d line env (selectors_uses (selector_views ss) env line) (selectors_calls (selector_views ss) env line)
Ready (Reach k els) env d line = IsReady d line env (all_used k els env line) (elements_calls els env line)
Ready (Call n xs) env d line = IsReady d line env (call_uses n (actual_views xs) env line) (call_calls n (actual_views xs) env line)
Ready (Specify l) env d line = Separate d (own_uses env l) × IsCleanLine env l
Ready (Main way l) env d line = Separate d (own_uses env l) × IsCleanLine env l
Ready (Under way l) env d line =
    Separate d (form_uses (head_of l).form env (head_of l).place ++ joined (components env (head_of l) (items_of (under l)))) × IsCleanLine env l × ClashFree way env (components env (head_of l) (items_of (under l)))
    × AreQuiet (head_of l).place env (form_calls (head_of l).form env (head_of l).place)
Ready (Item way ls) env d line = Separate d (item_uses (trees_of ls) env) × ((outer : Env) × IsClean (trees_of ls) outer env)
Ready (Pieces way k ps) env d line = (comps : List (List Use)) × AllReady env ps comps × Separate d (joined comps) × ClashFree way env comps

-- ---- expressions, elements and actuals

expr_ready : (d : Scope) (line : Location) (env : Env) (e : TypedExpr) → IsReady d line env ((expr_view e).uses env line) ((expr_view e).calls env line) → Ready (Evaluate (out-TypedExpr e)) env d line
expr_ready d line env e h = subst (λ (w : ExprView). IsReady d line env (w.uses env line) (w.calls env line)) (expr_form e) h

pub evaluate_ready : (d : Scope) (line : Location) (env : Env) (es : List TypedExpr) → IsReady d line env (each_uses es env line) (each_calls es env line) → Ready (evaluate es) env d line
evaluate_ready d line env [] h = tt
evaluate_ready d line env (e ∷ es) h = (
  expr_ready d line env e (ready_left d line env ((expr_view e).uses env line) (each_uses es env line) ((expr_view e).calls env line) (each_calls es env line) h),
  evaluate_ready d line env es (ready_right d line env ((expr_view e).uses env line) (each_uses es env line) ((expr_view e).calls env line) (each_calls es env line) h),
)

same_calls : (es : List TypedExpr) (env : Env) (line : Location) → each_calls es env line ≡ views.each_calls (expr_views es) env line
same_calls [] env line = refl
same_calls (e ∷ es) env line = ap (λ (cs : List ACall). (expr_view e).calls env line ++ cs) (same_calls es env line)

operand_calls : (f : ExprForm) (es : List TypedExpr) (env : Env) (line : Location) → operands f ≡ Some es → each_calls es env line ≡ (form_view f).calls env line
operand_calls (TypedExpr-F.Literal k) es env line o = ap (λ (gs : List TypedExpr). each_calls gs env line) (sym (some_same [] es o))
operand_calls (TypedExpr-F.Element el) es env line o = absurd cc
operand_calls (TypedExpr-F.Operation k op gs) es env line o = ap (λ (hs : List TypedExpr). each_calls hs env line) (sym (some_same gs es o)) ∙ same_calls gs env line
operand_calls (TypedExpr-F.Applied k op e) es env line o = ap (λ (gs : List TypedExpr). each_calls gs env line) (sym (some_same (e ∷ []) es o)) ∙ no_more ((expr_view e).calls env line)
operand_calls (TypedExpr-F.Size k e) es env line o = absurd cc
operand_calls (TypedExpr-F.Converted k e) es env line o = ap (λ (gs : List TypedExpr). each_calls gs env line) (sym (some_same (e ∷ []) es o)) ∙ no_more ((expr_view e).calls env line)
operand_calls (TypedExpr-F.Table k gs) es env line o = ap (λ (hs : List TypedExpr). each_calls hs env line) (sym (some_same gs es o)) ∙ same_calls gs env line
operand_calls (TypedExpr-F.Call k callee actuals) es env line o = absurd cc

pub operands_ready : (d : Scope) (line : Location) (env : Env) (f : ExprForm) (es : List TypedExpr) → operands f ≡ Some es → Ready (Evaluate f) env d line → Ready (evaluate es) env d line
operands_ready d line env f es h r =
    evaluate_ready d line env es (ready_same d line env ((form_view f).uses env line) (each_uses es env line) ((form_view f).calls env line) (each_calls es env line) (sym (operand_uses f es env line h)) (sym (operand_calls f es env line h)) r)

-- the first of some operands
first_ready : (d : Scope) (line : Location) (env : Env) (es fs : List TypedExpr) → Ready (evaluate (es ++ fs)) env d line → Ready (evaluate es) env d line
first_ready d line env [] fs h = tt
first_ready d line env (e ∷ es) fs h = (h.0, first_ready d line env es fs h.1)

pub decided_ready : (d : Scope) (line : Location) (env : Env) (k : Known) (op : Operator) (es fs : List TypedExpr) → Ready (Evaluate (TypedExpr-F.Operation k op (es ++ fs))) env d line → Ready (evaluate es) env d line
decided_ready d line env k op es fs h = first_ready d line env es fs (operands_ready d line env (TypedExpr-F.Operation k op (es ++ fs)) (es ++ fs) refl h)

-- an element that is read
pub read_ready : (d : Scope) (line : Location) (env : Env) (el : TypedElement) → Ready (Evaluate (TypedExpr-F.Element el)) env d line → Ready (Find el) env d line
read_ready d line env el h = ready_found d line env ((element_view el).uses env line) (made line kind.Read ((element_view el).place env)) ((element_view el).calls env line) h

pub select_ready : (d : Scope) (line : Location) (env : Env) (el : TypedElement) (x : Thing) → Ready (Find el) env d line → Ready (Select (out-TypedElement el).selectors x) env d line
select_ready d line env el x h = subst (λ (w : ElementView). IsReady d line env (w.uses env line) (w.calls env line)) (element_opened el) h

bound_calls : (f : SelectorForm) (env : Env) (line : Location) → each_calls (bounds f) env line ≡ (selector_form f).calls env line
bound_calls (Selector-F.Field k name) env line = refl
bound_calls (Selector-F.Component e) env line = no_more ((expr_view e).calls env line)
bound_calls (Selector-F.From n e) env line = no_more ((expr_view e).calls env line)
bound_calls (Selector-F.For n e) env line = no_more ((expr_view e).calls env line)
bound_calls (Selector-F.FromFor n e f) env line = ap (λ (cs : List ACall). (expr_view e).calls env line ++ cs) (no_more ((expr_view f).calls env line))

pub bounds_ready : (d : Scope) (line : Location) (env : Env) (s : Selector) (ss : List Selector) (x : Thing) → Ready (Select (s ∷ ss) x) env d line → Ready (evaluate (bounds (out-Selector s))) env d line
bounds_ready d line env s ss x h =
    let first = ready_left d line env ((selector_view s).uses env line) (selectors_uses (selector_views ss) env line) ((selector_view s).calls env line) (selectors_calls (selector_views ss) env line) h in
    let opened = subst (λ (w : SelectorView). IsReady d line env (w.uses env line) (w.calls env line)) (selector_opened s) first in
    evaluate_ready d line env (bounds (out-Selector s))
    (ready_same d line env ((selector_form (out-Selector s)).uses env line) (each_uses (bounds (out-Selector s)) env line) ((selector_form (out-Selector s)).calls env line) (each_calls (bounds (out-Selector s)) env line)
    (sym (bound_uses (out-Selector s) env line)) (sym (bound_calls (out-Selector s) env line)) opened)

pub rest_ready : (d : Scope) (line : Location) (env : Env) (s : Selector) (ss : List Selector) (x y : Thing) → Ready (Select (s ∷ ss) x) env d line → Ready (Select ss y) env d line
rest_ready d line env s ss x y h = ready_right d line env ((selector_view s).uses env line) (selectors_uses (selector_views ss) env line) ((selector_view s).calls env line) (selectors_calls (selector_views ss) env line) h

pub finds_ready : (d : Scope) (line : Location) (env : Env) (k : UseKind) (els : List TypedElement) → IsReady d line env (all_used k els env line) (elements_calls els env line) → Ready (find els) env d line
finds_ready d line env k [] h = tt
finds_ready d line env k (el ∷ els) h = (
  ready_found d line env ((element_view el).uses env line) (made line k ((element_view el).place env)) ((element_view el).calls env line)
      (ready_left d line env (used k el env line) (all_used k els env line) ((element_view el).calls env line) (elements_calls els env line) h),
  finds_ready d line env k els (ready_right d line env (used k el env line) (all_used k els env line) ((element_view el).calls env line) (elements_calls els env line) h),
)

actual_ready : (d : Scope) (line : Location) (env : Env) (o : ActualForm) → IsReady d line env ((actual_form o).uses env line) ((actual_form o).calls env line) → Ready (actual_work o) env d line
actual_ready d line env (TypedActual-F.Value e) h = expr_ready d line env e h
actual_ready d line env (TypedActual-F.Variable el) h = h

pub pass_ready : (d : Scope) (line : Location) (env : Env) (xs : List TypedActual) → IsReady d line env (actuals_uses (actual_views xs) env line) (actuals_calls (actual_views xs) env line) → Ready (pass xs) env d line
pass_ready d line env [] h = tt
pass_ready d line env (x ∷ xs) h = (
  actual_ready d line env (out-TypedActual x) (subst (λ (w : ActualView). IsReady d line env (w.uses env line) (w.calls env line)) (actual_opened x)
      (ready_left d line env ((actual_view x).uses env line) (actuals_uses (actual_views xs) env line) ((actual_view x).calls env line) (actuals_calls (actual_views xs) env line) h)),
  pass_ready d line env xs (ready_right d line env ((actual_view x).uses env line) (actuals_uses (actual_views xs) env line) ((actual_view x).calls env line) (actuals_calls (actual_views xs) env line) h),
)

pub passing_ready : (d : Scope) (line : Location) (env : Env) (n : ℕ) (xs : List TypedActual) → Ready (Call n xs) env d line → Ready (pass xs) env d line
passing_ready d line env n xs h =
    pass_ready d line env xs (ready_left d line env (actuals_uses (actual_views xs) env line) (called_uses n (actual_views xs) env line) (actuals_calls (actual_views xs) env line) (call_at n (actual_views xs) env line ∷ []) h)

pub called_ready : (d : Scope) (line : Location) (env : Env) (n : ℕ) (xs : List TypedActual) → Ready (Call n xs) env d line → Separate d (called_uses n (actual_views xs) env line) × NoAlias n (places_of (actual_views xs) env) (body_of (slice_get env n))
called_ready d line env n xs h =
    let r = ready_right d line env (actuals_uses (actual_views xs) env line) (called_uses n (actual_views xs) env line) (actuals_calls (actual_views xs) env line) (call_at n (actual_views xs) env line ∷ []) h in
    (r.0, no_alias line env (call_at n (actual_views xs) env line) r.1)

-- ---- what a line does at once

one_reach : (d : Scope) (line : Location) (env : Env) (k : UseKind) (el : TypedElement) → IsReady d line env (used k el env line) ((element_view el).calls env line) → Ready (Reach k (el ∷ [])) env d line
one_reach d line env k el h =
    ready_same d line env (used k el env line) (all_used k (el ∷ []) env line) ((element_view el).calls env line) (elements_calls (el ∷ []) env line) (sym (no_more (used k el env line))) (sym (no_more ((element_view el).calls env line))) h

target_ready : (d : Scope) (line : Location) (env : Env) (g : TypedTarget) → IsReady d line env (target_uses g env line) (target_calls g env line) → Ready (receive g) env d line
target_ready d line env (target.Single el) h = one_reach d line env kind.Write el h
target_ready d line env (target.Counted count el) h = (
  one_reach d line env kind.Write count (ready_left d line env (used kind.Write count env line) (used kind.Write el env line) ((element_view count).calls env line) ((element_view el).calls env line) h),
  one_reach d line env kind.Write el (ready_right d line env (used kind.Write count env line) (used kind.Write el env line) ((element_view count).calls env line) ((element_view el).calls env line) h),
)

targets_ready : (d : Scope) (line : Location) (env : Env) (gs : List TypedTarget) → IsReady d line env (targets_uses gs env line) (targets_calls gs env line) → Ready (receive_all gs) env d line
targets_ready d line env [] h = tt
targets_ready d line env (g ∷ gs) h = (
  target_ready d line env g (ready_left d line env (target_uses g env line) (targets_uses gs env line) (target_calls g env line) (targets_calls gs env line) h),
  targets_ready d line env gs (ready_right d line env (target_uses g env line) (targets_uses gs env line) (target_calls g env line) (targets_calls gs env line) h),
)

output_ready : (d : Scope) (line : Location) (env : Env) (g : TypedOutput) → IsReady d line env (output_uses g env line) (output_calls g env line) → Ready (send g) env d line
output_ready d line env (output.Value e) h = expr_ready d line env e h
output_ready d line env (output.Counted count e) h = (
  expr_ready d line env count (ready_left d line env ((expr_view count).uses env line) ((expr_view e).uses env line) ((expr_view count).calls env line) ((expr_view e).calls env line) h),
  expr_ready d line env e (ready_right d line env ((expr_view count).uses env line) ((expr_view e).uses env line) ((expr_view count).calls env line) ((expr_view e).calls env line) h),
)
output_ready d line env (output.Tag place name) h = tt

outputs_ready : (d : Scope) (line : Location) (env : Env) (gs : List TypedOutput) → IsReady d line env (outputs_uses gs env line) (outputs_calls gs env line) → Ready (send_all gs) env d line
outputs_ready d line env [] h = tt
outputs_ready d line env (g ∷ gs) h = (
  output_ready d line env g (ready_left d line env (output_uses g env line) (outputs_uses gs env line) (output_calls g env line) (outputs_calls gs env line) h),
  outputs_ready d line env gs (ready_right d line env (output_uses g env line) (outputs_uses gs env line) (output_calls g env line) (outputs_calls gs env line) h),
)

input_ready : (d : Scope) (line : Location) (env : Env) (i : TypedInput) → IsReady d line env (input_uses i env line) (input_calls i env line) → Ready (wait_for i) env d line × Ready (received i) env d line
input_ready d line env (input.Plain el ts) h = (
  one_reach d line env kind.Input el (ready_left d line env (used kind.Input el env line) (targets_uses ts env line) ((element_view el).calls env line) (targets_calls ts env line) h),
  targets_ready d line env ts (ready_right d line env (used kind.Input el env line) (targets_uses ts env line) ((element_view el).calls env line) (targets_calls ts env line) h),
)
input_ready d line env (input.Time el g) h = (
  one_reach d line env kind.Input el (ready_left d line env (used kind.Input el env line) (used kind.Write g env line) ((element_view el).calls env line) ((element_view g).calls env line) h),
  one_reach d line env kind.Write g (ready_right d line env (used kind.Input el env line) (used kind.Write g env line) ((element_view el).calls env line) ((element_view g).calls env line) h),
)
input_ready d line env (input.After el e) h = (
  (
    one_reach d line env kind.Input el (ready_left d line env (used kind.Input el env line) ((expr_view e).uses env line) ((element_view el).calls env line) ((expr_view e).calls env line) h),
    expr_ready d line env e (ready_right d line env (used kind.Input el env line) ((expr_view e).uses env line) ((element_view el).calls env line) ((expr_view e).calls env line) h),
  ),
  tt,
)
input_ready d line env (input.Tagged el place name ts) h = (
  one_reach d line env kind.Input el (ready_left d line env (used kind.Input el env line) (targets_uses ts env line) ((element_view el).calls env line) (targets_calls ts env line) h),
  targets_ready d line env ts (ready_right d line env (used kind.Input el env line) (targets_uses ts env line) ((element_view el).calls env line) (targets_calls ts env line) h),
)

guard_ready : (d : Scope) (line : Location) (env : Env) (g : TypedGuard) → IsReady d line env (guard_uses g env line) (guard_calls g env line) → Ready (guard_waits g) env d line × Ready (guard_work g) env d line
guard_ready d line env guard.Skip h = (tt, tt)
guard_ready d line env (guard.Input i) h = let r = input_ready d line env i h in (r.0, r)
guard_ready d line env (guard.CaseInput el) h = (one_reach d line env kind.Input el h, one_reach d line env kind.Input el h)

assigning_ready : (d : Scope) (line : Location) (env : Env) (els : List TypedElement) (es : List TypedExpr) → IsReady d line env (form_uses (form.Assignment els es) env line) (form_calls (form.Assignment els es) env line)
    → Ready (Both (evaluate es) (Reach kind.Write els)) env d line
assigning_ready d line env els es h = (
  evaluate_ready d line env es (ready_left d line env (each_uses es env line) (written els env line) (each_calls es env line) (elements_calls els env line) h),
  ready_same d line env (written els env line) (all_used kind.Write els env line) (elements_calls els env line) (elements_calls els env line) (sym (same_written els env line)) refl
      (ready_right d line env (each_uses es env line) (written els env line) (each_calls es env line) (elements_calls els env line) h),
)

sending_ready : (d : Scope) (line : Location) (env : Env) (el : TypedElement) (os : List TypedOutput) → IsReady d line env (form_uses (form.Output el os) env line) (form_calls (form.Output el os) env line)
    → Ready (Both (send_all os) (Reach kind.Output (el ∷ []))) env d line
sending_ready d line env el os h = (
  outputs_ready d line env os (ready_right d line env (used kind.Output el env line) (outputs_uses os env line) ((element_view el).calls env line) (outputs_calls os env line) h),
  one_reach d line env kind.Output el (ready_left d line env (used kind.Output el env line) (outputs_uses os env line) ((element_view el).calls env line) (outputs_calls os env line) h),
)

guarding_ready : (d : Scope) (line : Location) (env : Env) (e : TypedExpr) (g : TypedGuard) → IsReady d line env (form_uses (form.Guard e g) env line) (form_calls (form.Guard e g) env line)
    → Ready (Evaluate (out-TypedExpr e)) env d line × (Ready (guard_waits g) env d line × Ready (guard_work g) env d line)
guarding_ready d line env e g h = (
  expr_ready d line env e (ready_left d line env ((expr_view e).uses env line) (guard_uses g env line) ((expr_view e).calls env line) (guard_calls g env line) h),
  guard_ready d line env g (ready_right d line env ((expr_view e).uses env line) (guard_uses g env line) ((expr_view e).calls env line) (guard_calls g env line) h),
)

-- ---- plans

abbrev ReadyPlan : Option Plan → TypedForm → Env → Scope → Location → Type 0
ReadyPlan None f env d line = Unit {0}
ReadyPlan (Some p) f env d line = IsReady d line env (form_uses f env line) (form_calls f env line) → Ready p.0 env d line

block_ready : (env : Env) (d : Scope) (line : Location) (k : BlockKind) (f : TypedForm) → ReadyPlan (block_plan k) f env d line
block_ready env d line block.Sequence f = λ h. tt
block_ready env d line block.Parallel f = λ h. tt
block_ready env d line block.Conditional f = λ h. tt
block_ready env d line block.Alternation f = tt

process_ready : (env : Env) (d : Scope) (line : Location) (f : TypedForm) → ReadyPlan (process_plan f) f env d line
process_ready env d line form.Declaration = tt
process_ready env d line form.DataType = tt
process_ready env d line form.Protocol = tt
process_ready env d line form.ProcedureHead = tt
process_ready env d line form.FunctionHead = tt
process_ready env d line form.RecordHead = tt
process_ready env d line form.ProtocolHead = tt
process_ready env d line form.Member = tt
process_ready env d line form.Close = tt
process_ready env d line form.Skip = λ h. tt
process_ready env d line form.Stop = tt
process_ready env d line form.Otherwise = tt
process_ready env d line form.ValueOf = λ h. tt
process_ready env d line form.Unknown = tt
process_ready env d line (form.Abbreviation el) = tt
process_ready env d line (form.Retyped el) = tt
process_ready env d line (form.Value e) = tt
process_ready env d line (form.RetypedValue e) = tt
process_ready env d line (form.OneLineFunction formals results) = tt
process_ready env d line (form.Uses interfaces) = tt
process_ready env d line (form.Assignment els es) = λ h. assigning_ready d line env els es h
process_ready env d line (form.Output el os) = λ h. sending_ready d line env el os h
process_ready env d line (form.Input i) = λ h. input_ready d line env i h
process_ready env d line (form.Instance callee actuals) = λ h. h
process_ready env d line (form.Block k r) = block_ready env d line k (form.Block k r)
process_ready env d line (form.While e) = tt
process_ready env d line (form.Selection e) = λ h. expr_ready d line env e h
process_ready env d line (form.CaseInput el) = λ h. one_reach d line env kind.Input el h
process_ready env d line (form.Condition e) = tt
process_ready env d line (form.Options es) = tt
process_ready env d line (form.Guard e g) = tt
process_ready env d line (form.Variant place tag ts) = tt
process_ready env d line (form.Results es) = λ h. evaluate_ready d line env es h

choice_ready : (env : Env) (d : Scope) (line : Location) (f : TypedForm) → ReadyPlan (choice_plan f) f env d line
choice_ready env d line form.Declaration = tt
choice_ready env d line form.DataType = tt
choice_ready env d line form.Protocol = tt
choice_ready env d line form.ProcedureHead = tt
choice_ready env d line form.FunctionHead = tt
choice_ready env d line form.RecordHead = tt
choice_ready env d line form.ProtocolHead = tt
choice_ready env d line form.Member = tt
choice_ready env d line form.Close = tt
choice_ready env d line form.Skip = tt
choice_ready env d line form.Stop = tt
choice_ready env d line form.Otherwise = tt
choice_ready env d line form.ValueOf = tt
choice_ready env d line form.Unknown = tt
choice_ready env d line (form.Abbreviation el) = tt
choice_ready env d line (form.Retyped el) = tt
choice_ready env d line (form.Value e) = tt
choice_ready env d line (form.RetypedValue e) = tt
choice_ready env d line (form.OneLineFunction formals results) = tt
choice_ready env d line (form.Uses interfaces) = tt
choice_ready env d line (form.Assignment els es) = tt
choice_ready env d line (form.Output el os) = tt
choice_ready env d line (form.Input i) = tt
choice_ready env d line (form.Instance callee actuals) = tt
choice_ready env d line (form.Block block.Sequence r) = tt
choice_ready env d line (form.Block block.Parallel r) = tt
choice_ready env d line (form.Block block.Conditional r) = λ h. tt
choice_ready env d line (form.Block block.Alternation r) = tt
choice_ready env d line (form.While e) = tt
choice_ready env d line (form.Selection e) = tt
choice_ready env d line (form.CaseInput el) = tt
choice_ready env d line (form.Condition e) = tt
choice_ready env d line (form.Options es) = tt
choice_ready env d line (form.Guard e g) = tt
choice_ready env d line (form.Variant place tag ts) = tt
choice_ready env d line (form.Results es) = tt

waiting_ready : (env : Env) (d : Scope) (line : Location) (f : TypedForm) → ReadyPlan (waiting_plan f) f env d line
waiting_ready env d line form.Declaration = tt
waiting_ready env d line form.DataType = tt
waiting_ready env d line form.Protocol = tt
waiting_ready env d line form.ProcedureHead = tt
waiting_ready env d line form.FunctionHead = tt
waiting_ready env d line form.RecordHead = tt
waiting_ready env d line form.ProtocolHead = tt
waiting_ready env d line form.Member = tt
waiting_ready env d line form.Close = tt
waiting_ready env d line form.Skip = tt
waiting_ready env d line form.Stop = tt
waiting_ready env d line form.Otherwise = tt
waiting_ready env d line form.ValueOf = tt
waiting_ready env d line form.Unknown = tt
waiting_ready env d line (form.Abbreviation el) = tt
waiting_ready env d line (form.Retyped el) = tt
waiting_ready env d line (form.Value e) = tt
waiting_ready env d line (form.RetypedValue e) = tt
waiting_ready env d line (form.OneLineFunction formals results) = tt
waiting_ready env d line (form.Uses interfaces) = tt
waiting_ready env d line (form.Assignment els es) = tt
waiting_ready env d line (form.Output el os) = tt
waiting_ready env d line (form.Input i) = λ h. (input_ready d line env i h).0
waiting_ready env d line (form.Instance callee actuals) = tt
waiting_ready env d line (form.Block block.Sequence r) = tt
waiting_ready env d line (form.Block block.Parallel r) = tt
waiting_ready env d line (form.Block block.Conditional r) = tt
waiting_ready env d line (form.Block block.Alternation r) = λ h. tt
waiting_ready env d line (form.While e) = tt
waiting_ready env d line (form.Selection e) = tt
waiting_ready env d line (form.CaseInput el) = λ h. one_reach d line env kind.Input el h
waiting_ready env d line (form.Condition e) = tt
waiting_ready env d line (form.Options es) = tt
waiting_ready env d line (form.Guard e g) = λ h. let g2 = guarding_ready d line env e g h in (g2.0, g2.1.0)
waiting_ready env d line (form.Variant place tag ts) = tt
waiting_ready env d line (form.Results es) = tt

taken_ready : (env : Env) (d : Scope) (line : Location) (f : TypedForm) → ReadyPlan (taken_plan f) f env d line
taken_ready env d line form.Declaration = tt
taken_ready env d line form.DataType = tt
taken_ready env d line form.Protocol = tt
taken_ready env d line form.ProcedureHead = tt
taken_ready env d line form.FunctionHead = tt
taken_ready env d line form.RecordHead = tt
taken_ready env d line form.ProtocolHead = tt
taken_ready env d line form.Member = tt
taken_ready env d line form.Close = tt
taken_ready env d line form.Skip = tt
taken_ready env d line form.Stop = tt
taken_ready env d line form.Otherwise = λ h. tt
taken_ready env d line form.ValueOf = tt
taken_ready env d line form.Unknown = tt
taken_ready env d line (form.Abbreviation el) = tt
taken_ready env d line (form.Retyped el) = tt
taken_ready env d line (form.Value e) = tt
taken_ready env d line (form.RetypedValue e) = tt
taken_ready env d line (form.OneLineFunction formals results) = tt
taken_ready env d line (form.Uses interfaces) = tt
taken_ready env d line (form.Assignment els es) = tt
taken_ready env d line (form.Output el os) = tt
taken_ready env d line (form.Input i) = λ h. input_ready d line env i h
taken_ready env d line (form.Instance callee actuals) = tt
taken_ready env d line (form.Block block.Sequence r) = tt
taken_ready env d line (form.Block block.Parallel r) = tt
taken_ready env d line (form.Block block.Conditional r) = tt
taken_ready env d line (form.Block block.Alternation r) = λ h. tt
taken_ready env d line (form.While e) = tt
taken_ready env d line (form.Selection e) = tt
taken_ready env d line (form.CaseInput el) = λ h. one_reach d line env kind.Input el h
taken_ready env d line (form.Condition e) = tt
taken_ready env d line (form.Options es) = λ h. tt
taken_ready env d line (form.Guard e g) = λ h. (guarding_ready d line env e g h).1.1
taken_ready env d line (form.Variant place tag ts) = λ h. targets_ready d line env ts h
taken_ready env d line (form.Results es) = tt

any_ready : (env : Env) (d : Scope) (line : Location) (way : Way) (f : TypedForm) → ReadyPlan (plan way f) f env d line
any_ready env d line InTurn f = process_ready env d line f
any_ready env d line Together f = process_ready env d line f
any_ready env d line Choice f = choice_ready env d line f
any_ready env d line Waiting f = waiting_ready env d line f
any_ready env d line Taken f = taken_ready env d line f
any_ready env d line Idle f = tt

pub plan_ready : (env : Env) (d : Scope) (line : Location) (way next : Way) (f : TypedForm) (w : Work) → plan way f ≡ Some (w, next) → IsReady d line env (form_uses f env line) (form_calls f env line) → Ready w env d line
plan_ready env d line way next f w h k = (subst (λ (o : Option Plan). ReadyPlan o f env d line) h (any_ready env d line way f)) k

pub specifying_ready : (env : Env) (d : Scope) (line : Location) (f : TypedForm) → IsReady d line env (form_uses f env line) (form_calls f env line) → Ready (specifying f) env d line
specifying_ready env d line form.Declaration h = tt
specifying_ready env d line form.DataType h = tt
specifying_ready env d line form.Protocol h = tt
specifying_ready env d line form.ProcedureHead h = tt
specifying_ready env d line form.FunctionHead h = tt
specifying_ready env d line form.RecordHead h = tt
specifying_ready env d line form.ProtocolHead h = tt
specifying_ready env d line form.Member h = tt
specifying_ready env d line form.Close h = tt
specifying_ready env d line form.Skip h = tt
specifying_ready env d line form.Stop h = tt
specifying_ready env d line form.Otherwise h = tt
specifying_ready env d line form.ValueOf h = tt
specifying_ready env d line form.Unknown h = tt
specifying_ready env d line (form.Abbreviation el) h = h
specifying_ready env d line (form.Retyped el) h = h
specifying_ready env d line (form.Value e) h = expr_ready d line env e h
specifying_ready env d line (form.RetypedValue e) h = expr_ready d line env e h
specifying_ready env d line (form.OneLineFunction formals results) h = tt
specifying_ready env d line (form.Uses interfaces) h = tt
specifying_ready env d line (form.Assignment els es) h = tt
specifying_ready env d line (form.Output el os) h = tt
specifying_ready env d line (form.Input i) h = tt
specifying_ready env d line (form.Instance callee actuals) h = tt
specifying_ready env d line (form.Block k r) h = tt
specifying_ready env d line (form.While e) h = tt
specifying_ready env d line (form.Selection e) h = tt
specifying_ready env d line (form.CaseInput el) h = tt
specifying_ready env d line (form.Condition e) h = tt
specifying_ready env d line (form.Options es) h = tt
specifying_ready env d line (form.Guard e g) h = tt
specifying_ready env d line (form.Variant place tag ts) h = tt
specifying_ready env d line (form.Results es) h = tt

-- ---- a line

scope_and_calls : (env : Env) (line : Location) (us : List Use) (cs : List ACall) → IsSilent (evaluated_faults line env us cs) → AreQuiet line env cs
scope_and_calls env line us cs h = silent_right (scope_faults 0 env env us) (calls_faults line env cs) h

quiet_form : (f : TypedForm) (env : Env) (line : Location) (us : List Use) → IsSilent (reported_with f env line us) → AreQuiet line env (form_calls f env line)
quiet_form form.Declaration env line us h = scope_and_calls env line us (form_calls form.Declaration env line) h
quiet_form form.DataType env line us h = scope_and_calls env line us (form_calls form.DataType env line) h
quiet_form form.Protocol env line us h = scope_and_calls env line us (form_calls form.Protocol env line) h
quiet_form form.ProcedureHead env line us h = scope_and_calls env line us (form_calls form.ProcedureHead env line) h
quiet_form form.FunctionHead env line us h = scope_and_calls env line us (form_calls form.FunctionHead env line) h
quiet_form form.RecordHead env line us h = scope_and_calls env line us (form_calls form.RecordHead env line) h
quiet_form form.ProtocolHead env line us h = scope_and_calls env line us (form_calls form.ProtocolHead env line) h
quiet_form form.Member env line us h = scope_and_calls env line us (form_calls form.Member env line) h
quiet_form form.Close env line us h = scope_and_calls env line us (form_calls form.Close env line) h
quiet_form form.Skip env line us h = scope_and_calls env line us (form_calls form.Skip env line) h
quiet_form form.Stop env line us h = scope_and_calls env line us (form_calls form.Stop env line) h
quiet_form form.Otherwise env line us h = scope_and_calls env line us (form_calls form.Otherwise env line) h
quiet_form form.ValueOf env line us h = scope_and_calls env line us (form_calls form.ValueOf env line) h
quiet_form form.Unknown env line us h = scope_and_calls env line us (form_calls form.Unknown env line) h
quiet_form (form.Abbreviation el) env line us h = scope_and_calls env line us (form_calls (form.Abbreviation el) env line) h
quiet_form (form.Retyped el) env line us h = scope_and_calls env line us (form_calls (form.Retyped el) env line) h
quiet_form (form.Value e) env line us h = scope_and_calls env line us (form_calls (form.Value e) env line) h
quiet_form (form.RetypedValue e) env line us h = scope_and_calls env line us (form_calls (form.RetypedValue e) env line) h
quiet_form (form.OneLineFunction formals results) env line us h = tt
quiet_form (form.Uses interfaces) env line us h = scope_and_calls env line us (form_calls (form.Uses interfaces) env line) h
quiet_form (form.Assignment els es) env line us h = scope_and_calls env line us (form_calls (form.Assignment els es) env line) h
quiet_form (form.Output el os) env line us h = scope_and_calls env line us (form_calls (form.Output el os) env line) h
quiet_form (form.Input i) env line us h = scope_and_calls env line us (form_calls (form.Input i) env line) h
quiet_form (form.Instance callee actuals) env line us h = scope_and_calls env line us (form_calls (form.Instance callee actuals) env line) h
quiet_form (form.Block k r) env line us h = scope_and_calls env line us (form_calls (form.Block k r) env line) h
quiet_form (form.While e) env line us h = scope_and_calls env line us (form_calls (form.While e) env line) h
quiet_form (form.Selection e) env line us h = scope_and_calls env line us (form_calls (form.Selection e) env line) h
quiet_form (form.CaseInput el) env line us h = scope_and_calls env line us (form_calls (form.CaseInput el) env line) h
quiet_form (form.Condition e) env line us h = scope_and_calls env line us (form_calls (form.Condition e) env line) h
quiet_form (form.Options es) env line us h = scope_and_calls env line us (form_calls (form.Options es) env line) h
quiet_form (form.Guard e g) env line us h = scope_and_calls env line us (form_calls (form.Guard e g) env line) h
quiet_form (form.Variant place tag ts) env line us h = scope_and_calls env line us (form_calls (form.Variant place tag ts) env line) h
quiet_form (form.Results es) env line us h = scope_and_calls env line us (form_calls (form.Results es) env line) h

own_silent : (rule_ : WalkRule) (env : Env) (l : TypedLine) (f : Finding) → IsSilent (line_reported rule_ env (head_of l) (under l) f) → IsSilent (rule_ (record { line = head_of l; under = under l; env = env }))
own_silent rule_ env l f h = silent_right (under_reported env (head_of l) f) (rule_ (record { line = head_of l; under = under l; env = env })) h

under_silent : (rule_ : WalkRule) (env : Env) (l : TypedLine) (f : Finding) → IsSilent (line_reported rule_ env (head_of l) (under l) f) → IsSilent (under_reported env (head_of l) f)
under_silent rule_ env l f h = silent_left (under_reported env (head_of l) f) (rule_ (record { line = head_of l; under = under l; env = env })) h

pub quiet_line : (env : Env) (l : TypedLine) → IsCleanLine env l → AreQuiet (head_of l).place env (form_calls (head_of l).form env (head_of l).place)
quiet_line env l h =
    quiet_form (head_of l).form env (head_of l).place (form_uses (head_of l).form env (head_of l).place) (own_silent abbreviation_at env l (λ (e : Env). reported abbreviation_at (under l) e e) h.1)

pub line_ready : (env : Env) (d : Scope) (l : TypedLine) → Separate d (own_uses env l) → IsCleanLine env l → IsReady d (head_of l).place env (form_uses (head_of l).form env (head_of l).place) (form_calls (head_of l).form env (head_of l).place)
line_ready env d l s h = (separate_left d (form_uses (head_of l).form env (head_of l).place) _ s, quiet_line env l h)

-- where a plan runs components beside one another, they have no clash
abbrev ClashPlan : Option Plan → Env → List (List Use) → Type 0
ClashPlan None env comps = Unit {0}
ClashPlan (Some p) env comps = ClashFree p.1 env comps

clash_block : (env : Env) (line : Location) (comps : List (List Use)) (k : BlockKind) → IsSilent (block_faults k line env comps) → ClashPlan (block_plan k) env comps
clash_block env line comps block.Sequence h = tt
clash_block env line comps block.Parallel h = no_clash line env comps h
clash_block env line comps block.Conditional h = tt
clash_block env line comps block.Alternation h = tt

clash_process : (env : Env) (line : Location) (comps : List (List Use)) (f : TypedForm) → IsSilent (own_faults f line env comps) → ClashPlan (process_plan f) env comps
clash_process env line comps form.Declaration h = tt
clash_process env line comps form.DataType h = tt
clash_process env line comps form.Protocol h = tt
clash_process env line comps form.ProcedureHead h = tt
clash_process env line comps form.FunctionHead h = tt
clash_process env line comps form.RecordHead h = tt
clash_process env line comps form.ProtocolHead h = tt
clash_process env line comps form.Member h = tt
clash_process env line comps form.Close h = tt
clash_process env line comps form.Skip h = tt
clash_process env line comps form.Stop h = tt
clash_process env line comps form.Otherwise h = tt
clash_process env line comps form.ValueOf h = tt
clash_process env line comps form.Unknown h = tt
clash_process env line comps (form.Abbreviation el) h = tt
clash_process env line comps (form.Retyped el) h = tt
clash_process env line comps (form.Value e) h = tt
clash_process env line comps (form.RetypedValue e) h = tt
clash_process env line comps (form.OneLineFunction formals results) h = tt
clash_process env line comps (form.Uses interfaces) h = tt
clash_process env line comps (form.Assignment els es) h = tt
clash_process env line comps (form.Output el os) h = tt
clash_process env line comps (form.Input i) h = tt
clash_process env line comps (form.Instance callee actuals) h = tt
clash_process env line comps (form.Block k r) h = clash_block env line comps k h
clash_process env line comps (form.While e) h = tt
clash_process env line comps (form.Selection e) h = tt
clash_process env line comps (form.CaseInput el) h = tt
clash_process env line comps (form.Condition e) h = tt
clash_process env line comps (form.Options es) h = tt
clash_process env line comps (form.Guard e g) h = tt
clash_process env line comps (form.Variant place tag ts) h = tt
clash_process env line comps (form.Results es) h = tt

clash_choice : (env : Env) (line : Location) (comps : List (List Use)) (f : TypedForm) → IsSilent (own_faults f line env comps) → ClashPlan (choice_plan f) env comps
clash_choice env line comps form.Declaration h = tt
clash_choice env line comps form.DataType h = tt
clash_choice env line comps form.Protocol h = tt
clash_choice env line comps form.ProcedureHead h = tt
clash_choice env line comps form.FunctionHead h = tt
clash_choice env line comps form.RecordHead h = tt
clash_choice env line comps form.ProtocolHead h = tt
clash_choice env line comps form.Member h = tt
clash_choice env line comps form.Close h = tt
clash_choice env line comps form.Skip h = tt
clash_choice env line comps form.Stop h = tt
clash_choice env line comps form.Otherwise h = tt
clash_choice env line comps form.ValueOf h = tt
clash_choice env line comps form.Unknown h = tt
clash_choice env line comps (form.Abbreviation el) h = tt
clash_choice env line comps (form.Retyped el) h = tt
clash_choice env line comps (form.Value e) h = tt
clash_choice env line comps (form.RetypedValue e) h = tt
clash_choice env line comps (form.OneLineFunction formals results) h = tt
clash_choice env line comps (form.Uses interfaces) h = tt
clash_choice env line comps (form.Assignment els es) h = tt
clash_choice env line comps (form.Output el os) h = tt
clash_choice env line comps (form.Input i) h = tt
clash_choice env line comps (form.Instance callee actuals) h = tt
clash_choice env line comps (form.Block block.Sequence r) h = tt
clash_choice env line comps (form.Block block.Parallel r) h = tt
clash_choice env line comps (form.Block block.Conditional r) h = tt
clash_choice env line comps (form.Block block.Alternation r) h = tt
clash_choice env line comps (form.While e) h = tt
clash_choice env line comps (form.Selection e) h = tt
clash_choice env line comps (form.CaseInput el) h = tt
clash_choice env line comps (form.Condition e) h = tt
clash_choice env line comps (form.Options es) h = tt
clash_choice env line comps (form.Guard e g) h = tt
clash_choice env line comps (form.Variant place tag ts) h = tt
clash_choice env line comps (form.Results es) h = tt

clash_waiting : (env : Env) (line : Location) (comps : List (List Use)) (f : TypedForm) → IsSilent (own_faults f line env comps) → ClashPlan (waiting_plan f) env comps
clash_waiting env line comps form.Declaration h = tt
clash_waiting env line comps form.DataType h = tt
clash_waiting env line comps form.Protocol h = tt
clash_waiting env line comps form.ProcedureHead h = tt
clash_waiting env line comps form.FunctionHead h = tt
clash_waiting env line comps form.RecordHead h = tt
clash_waiting env line comps form.ProtocolHead h = tt
clash_waiting env line comps form.Member h = tt
clash_waiting env line comps form.Close h = tt
clash_waiting env line comps form.Skip h = tt
clash_waiting env line comps form.Stop h = tt
clash_waiting env line comps form.Otherwise h = tt
clash_waiting env line comps form.ValueOf h = tt
clash_waiting env line comps form.Unknown h = tt
clash_waiting env line comps (form.Abbreviation el) h = tt
clash_waiting env line comps (form.Retyped el) h = tt
clash_waiting env line comps (form.Value e) h = tt
clash_waiting env line comps (form.RetypedValue e) h = tt
clash_waiting env line comps (form.OneLineFunction formals results) h = tt
clash_waiting env line comps (form.Uses interfaces) h = tt
clash_waiting env line comps (form.Assignment els es) h = tt
clash_waiting env line comps (form.Output el os) h = tt
clash_waiting env line comps (form.Input i) h = tt
clash_waiting env line comps (form.Instance callee actuals) h = tt
clash_waiting env line comps (form.Block block.Sequence r) h = tt
clash_waiting env line comps (form.Block block.Parallel r) h = tt
clash_waiting env line comps (form.Block block.Conditional r) h = tt
clash_waiting env line comps (form.Block block.Alternation r) h = tt
clash_waiting env line comps (form.While e) h = tt
clash_waiting env line comps (form.Selection e) h = tt
clash_waiting env line comps (form.CaseInput el) h = tt
clash_waiting env line comps (form.Condition e) h = tt
clash_waiting env line comps (form.Options es) h = tt
clash_waiting env line comps (form.Guard e g) h = tt
clash_waiting env line comps (form.Variant place tag ts) h = tt
clash_waiting env line comps (form.Results es) h = tt

clash_taken : (env : Env) (line : Location) (comps : List (List Use)) (f : TypedForm) → IsSilent (own_faults f line env comps) → ClashPlan (taken_plan f) env comps
clash_taken env line comps form.Declaration h = tt
clash_taken env line comps form.DataType h = tt
clash_taken env line comps form.Protocol h = tt
clash_taken env line comps form.ProcedureHead h = tt
clash_taken env line comps form.FunctionHead h = tt
clash_taken env line comps form.RecordHead h = tt
clash_taken env line comps form.ProtocolHead h = tt
clash_taken env line comps form.Member h = tt
clash_taken env line comps form.Close h = tt
clash_taken env line comps form.Skip h = tt
clash_taken env line comps form.Stop h = tt
clash_taken env line comps form.Otherwise h = tt
clash_taken env line comps form.ValueOf h = tt
clash_taken env line comps form.Unknown h = tt
clash_taken env line comps (form.Abbreviation el) h = tt
clash_taken env line comps (form.Retyped el) h = tt
clash_taken env line comps (form.Value e) h = tt
clash_taken env line comps (form.RetypedValue e) h = tt
clash_taken env line comps (form.OneLineFunction formals results) h = tt
clash_taken env line comps (form.Uses interfaces) h = tt
clash_taken env line comps (form.Assignment els es) h = tt
clash_taken env line comps (form.Output el os) h = tt
clash_taken env line comps (form.Input i) h = tt
clash_taken env line comps (form.Instance callee actuals) h = tt
clash_taken env line comps (form.Block block.Sequence r) h = tt
clash_taken env line comps (form.Block block.Parallel r) h = tt
clash_taken env line comps (form.Block block.Conditional r) h = tt
clash_taken env line comps (form.Block block.Alternation r) h = tt
clash_taken env line comps (form.While e) h = tt
clash_taken env line comps (form.Selection e) h = tt
clash_taken env line comps (form.CaseInput el) h = tt
clash_taken env line comps (form.Condition e) h = tt
clash_taken env line comps (form.Options es) h = tt
clash_taken env line comps (form.Guard e guard.Skip) h = tt
clash_taken env line comps (form.Guard e (guard.Input i)) h = tt
clash_taken env line comps (form.Guard e (guard.CaseInput el)) h = tt
clash_taken env line comps (form.Variant place tag ts) h = tt
clash_taken env line comps (form.Results es) h = tt

clash_any : (env : Env) (line : Location) (comps : List (List Use)) (way : Way) (f : TypedForm) → IsSilent (own_faults f line env comps) → ClashPlan (plan way f) env comps
clash_any env line comps InTurn f h = clash_process env line comps f h
clash_any env line comps Together f h = clash_process env line comps f h
clash_any env line comps Choice f h = clash_choice env line comps f h
clash_any env line comps Waiting f h = clash_waiting env line comps f h
clash_any env line comps Taken f h = clash_taken env line comps f h
clash_any env line comps Idle f h = tt

pub planned_under : (env : Env) (d : Scope) (way next : Way) (l : TypedLine) (w : Work) (line : Location) → plan way (out-TypedLine l).form ≡ Some (w, next) → Separate d (own_uses env l) → IsCleanLine env l → Ready (Under next l) env d line
planned_under env d way next l w line h s c = (
  separate_alike d (own_uses env l) (form_uses (head_of l).form env (head_of l).place ++ joined (components env (head_of l) (items_of (under l)))) (λ u i. under_in_line env l u (planned_no_body way (out-TypedLine l).form (w, next) h) i) s,
  c,
  subst (λ (o : Option Plan). ClashPlan o env (components env (head_of l) (items_of (under l)))) h
      (clash_any env (head_of l).place (components env (head_of l) (items_of (under l))) way (out-TypedLine l).form (own_silent parallel_at env l (λ (e : Env). reported parallel_at (under l) e e) c.0)),
  quiet_line env l c,
)

-- under a line that runs nothing beside one another
pub form_under : (env : Env) (d : Scope) (way : Way) (l : TypedLine) (f : TypedForm) (line : Location) → (out-TypedLine l).form ≡ f → is_body f ≡ false → ((comps : List (List Use)) → ClashFree way env comps) → Separate d (own_uses env l) → IsCleanLine env l
    → Ready (Under way l) env d line
form_under env d way l f line same none clash s c = (
  separate_alike d (own_uses env l) (form_uses (head_of l).form env (head_of l).place ++ joined (components env (head_of l) (items_of (under l)))) (λ u i. under_in_line env l u (ap is_body same ∙ none) i) s,
  c,
  clash (components env (head_of l) (items_of (under l))),
  quiet_line env l c,
)

-- the expression of a line
pub expression_ready : (env : Env) (d : Scope) (l : TypedLine) (f : TypedForm) (e : TypedExpr) → (out-TypedLine l).form ≡ f → ((line : Location) → form_uses f env line ≡ (expr_view e).uses env line) → ((line : Location) → form_calls f env line ≡ (expr_view e).calls env line)
    → Separate d (own_uses env l) → IsCleanLine env l → Ready (Evaluate (out-TypedExpr e)) env d (head_of l).place
expression_ready env d l f e same uses calls s c =
    let line = (head_of l).place in
    expr_ready d line env e
    (ready_same d line env (form_uses (head_of l).form env line) ((expr_view e).uses env line) (form_calls (head_of l).form env line) ((expr_view e).calls env line)
    (ap (λ (g : TypedForm). form_uses g env line) same ∙ uses line) (ap (λ (g : TypedForm). form_calls g env line) same ∙ calls line) (line_ready env d l s c))
