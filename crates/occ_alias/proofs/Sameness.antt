-- What the abbreviation rule reports of a line that does not name a specification is the same in scopes that differ in the value of
-- that alone.
use Rattle.std.proofs.Common.{◌≡◌, ◌∙◌, ◌+◌, ◌++◌, ◌&&◌, ◌==◌, ℕ, false, Option, Some, None, List, [], ◌∷◌, slice_get, nat_lt, if◌then◌else◌, refl, ap, ap₂, sym}
use Rattle.std.specs.List.{list_any}
use Rattle.occ_base.specs.declared.code.Code.{Code}
use Rattle.occ_base.specs.declared.code.Code.TheVariants as code
use Rattle.occ_base.specs.declared.diag.Diag.{Diag}
use Rattle.occ_project.specs.declared.expanded.Location.{Location}
use Rattle.occ_scope.specs.declared.meaning.ScopeEntry.{ScopeEntry}
use Rattle.occ_types.specs.declared.value.Value.{Value}
use Rattle.occ_typing_rules.specs.declared.expr.TypedElement.{TypedElement}
use Rattle.occ_typing_rules.specs.declared.expr.TypedExpr.{TypedExpr}
use Rattle.occ_typing_statements.specs.declared.exchange_tree.TypedInput.{TypedInput}
use Rattle.occ_typing_statements.specs.declared.exchange_tree.TypedInput.TheVariants as input
use Rattle.occ_typing_statements.specs.declared.exchange_tree.TypedOutput.{TypedOutput}
use Rattle.occ_typing_statements.specs.declared.exchange_tree.TypedOutput.TheVariants as output
use Rattle.occ_typing_statements.specs.declared.exchange_tree.TypedTarget.{TypedTarget}
use Rattle.occ_typing_statements.specs.declared.exchange_tree.TypedTarget.TheVariants as target
use Rattle.occ_typing_statements.specs.declared.replicator_tree.TypedReplicator.{TypedReplicator}
use Rattle.occ_usage_conflicts.specs.Kinds.{is_read, is_write}
use Rattle.occ_usage_conflicts.specs.ParallelRule.{name_of, root_name}
use Rattle.occ_usage_lines.specs.Entering.{entry_bounds}
use Rattle.occ_usage_lines.specs.Forms.{each_uses, form_uses}
use Rattle.occ_usage_lines.specs.Naming.{elements_depend, form_depends, guard_depends, input_depends, output_depends, outputs_depend, replicator_depends, target_depends, targets_depend}
use Rattle.occ_usage_lines.specs.TypedForm.{TypedForm}
use Rattle.occ_usage_lines.specs.TypedForm.TheVariants as form
use Rattle.occ_usage_lines.specs.TypedGuard.{TypedGuard}
use Rattle.occ_usage_lines.specs.TypedGuard.TheVariants as guard
use Rattle.occ_usage_lines.proofs.Sameness.{each_uses_same}
pub use Rattle.occ_usage_lines.proofs.Sameness.{differ_more, form_effect_same, form_uses_same, length_same, specified_same, used_same}
use Rattle.occ_usage_parts.specs.Parts.{overlap_of}
use Rattle.occ_usage_parts.specs.Selecting.{part_of}
use Rattle.occ_usage_parts.specs.declared.part.Part.{Part}
use Rattle.occ_usage_parts.specs.declared.place.SelectedPart.{SelectedPart}
use Rattle.occ_usage_values.specs.Bounds.{Env, body_of}
use Rattle.occ_usage_values.specs.Differing.{DifferAt, IsSame}
use Rattle.occ_usage_values.specs.Naming.{element_depends, expr_depends, exprs_depend}
use Rattle.occ_usage_values.specs.Views.{actual_views}
use Rattle.occ_usage_values.specs.declared.bound.Bound.{Bound}
use Rattle.occ_usage_values.specs.declared.bound.Bound.TheVariants as b
use Rattle.occ_usage_values.specs.Calls.{Call}
use Rattle.occ_usage_values.specs.declared.uses.Use.{Use}
use Rattle.occ_usage_values.proofs.Differing.{call_calls_same, found_same, left_false, right_false}
use Rattle.occ_usage_values.proofs.Depending.{all_actuals_stay, element_stays, expr_stays}
use Rattle.occ_usage_values.proofs.Sameness.{element_same, expr_same}
use Rattle.occ_alias.specs.AbbreviationRule.{actual_faults, actuals_faults, bound_faults, call_faults, calls_faults, element_fault, element_faults, evaluated_faults, free_fault, free_faults, graded, line_faults, pair_faults, place_faults, place_pair, place_pairs, results_faults, scope_faults, written_by, written_fault, written_faults}
use Rattle.occ_alias.specs.LineCalls.{each_calls, elements_calls, form_calls, guard_calls, input_calls, output_calls, outputs_calls, replicator_calls, target_calls, targets_calls}

-- ---- calls

two_calls : (a c x y : List Call) → a ≡ c → x ≡ y → a ++ x ≡ c ++ y
two_calls a c x y p q = ap₂ (λ (us vs : List Call). us ++ vs) p q

each_calls_same : (d : ℕ) (xs : List TypedExpr) → exprs_depend d xs ≡ false → (line : Location) → IsSame d (λ env. each_calls xs env line)
each_calls_same d [] h line e f m = refl
each_calls_same d (x ∷ xs) h line e f m =
    two_calls _ _ _ _ ((expr_stays d x (left_false (expr_depends d x) (exprs_depend d xs) h)).calls line e f m) (each_calls_same d xs (right_false (expr_depends d x) (exprs_depend d xs) h) line e f m)

elements_calls_same : (d : ℕ) (xs : List TypedElement) → elements_depend d xs ≡ false → (line : Location) → IsSame d (λ env. elements_calls xs env line)
elements_calls_same d [] h line e f m = refl
elements_calls_same d (x ∷ xs) h line e f m =
    two_calls _ _ _ _ ((element_stays d x (left_false (element_depends d x) (elements_depend d xs) h)).calls line e f m) (elements_calls_same d xs (right_false (element_depends d x) (elements_depend d xs) h) line e f m)

target_calls_same : (d : ℕ) (t : TypedTarget) → target_depends d t ≡ false → (line : Location) → IsSame d (λ env. target_calls t env line)
target_calls_same d (target.Single el) h line e f m = (element_stays d el h).calls line e f m
target_calls_same d (target.Counted count el) h line e f m =
    two_calls _ _ _ _ ((element_stays d count (left_false (element_depends d count) (element_depends d el) h)).calls line e f m) ((element_stays d el (right_false (element_depends d count) (element_depends d el) h)).calls line e f m)

targets_calls_same : (d : ℕ) (xs : List TypedTarget) → targets_depend d xs ≡ false → (line : Location) → IsSame d (λ env. targets_calls xs env line)
targets_calls_same d [] h line e f m = refl
targets_calls_same d (x ∷ xs) h line e f m =
    two_calls _ _ _ _ (target_calls_same d x (left_false (target_depends d x) (targets_depend d xs) h) line e f m) (targets_calls_same d xs (right_false (target_depends d x) (targets_depend d xs) h) line e f m)

output_calls_same : (d : ℕ) (o : TypedOutput) → output_depends d o ≡ false → (line : Location) → IsSame d (λ env. output_calls o env line)
output_calls_same d (output.Value x) h line e f m = (expr_stays d x h).calls line e f m
output_calls_same d (output.Counted x y) h line e f m =
    two_calls _ _ _ _ ((expr_stays d x (left_false (expr_depends d x) (expr_depends d y) h)).calls line e f m) ((expr_stays d y (right_false (expr_depends d x) (expr_depends d y) h)).calls line e f m)
output_calls_same d (output.Tag place name) h line e f m = refl

outputs_calls_same : (d : ℕ) (xs : List TypedOutput) → outputs_depend d xs ≡ false → (line : Location) → IsSame d (λ env. outputs_calls xs env line)
outputs_calls_same d [] h line e f m = refl
outputs_calls_same d (x ∷ xs) h line e f m =
    two_calls _ _ _ _ (output_calls_same d x (left_false (output_depends d x) (outputs_depend d xs) h) line e f m) (outputs_calls_same d xs (right_false (output_depends d x) (outputs_depend d xs) h) line e f m)

input_calls_same : (d : ℕ) (i : TypedInput) → input_depends d i ≡ false → (line : Location) → IsSame d (λ env. input_calls i env line)
input_calls_same d (input.Plain el ts) h line e f m =
    two_calls _ _ _ _ ((element_stays d el (left_false (element_depends d el) (targets_depend d ts) h)).calls line e f m) (targets_calls_same d ts (right_false (element_depends d el) (targets_depend d ts) h) line e f m)
input_calls_same d (input.Time el t) h line e f m =
    two_calls _ _ _ _ ((element_stays d el (left_false (element_depends d el) (element_depends d t) h)).calls line e f m) ((element_stays d t (right_false (element_depends d el) (element_depends d t) h)).calls line e f m)
input_calls_same d (input.After el x) h line e f m =
    two_calls _ _ _ _ ((element_stays d el (left_false (element_depends d el) (expr_depends d x) h)).calls line e f m) ((expr_stays d x (right_false (element_depends d el) (expr_depends d x) h)).calls line e f m)
input_calls_same d (input.Tagged el place name ts) h line e f m =
    two_calls _ _ _ _ ((element_stays d el (left_false (element_depends d el) (targets_depend d ts) h)).calls line e f m) (targets_calls_same d ts (right_false (element_depends d el) (targets_depend d ts) h) line e f m)

guard_calls_same : (d : ℕ) (g : TypedGuard) → guard_depends d g ≡ false → (line : Location) → IsSame d (λ env. guard_calls g env line)
guard_calls_same d guard.Skip h line e f m = refl
guard_calls_same d (guard.Input i) h line e f m = input_calls_same d i h line e f m
guard_calls_same d (guard.CaseInput el) h line e f m = (element_stays d el h).calls line e f m

replicator_calls_same : (d : ℕ) (r : Option TypedReplicator) → replicator_depends d r ≡ false → (line : Location) → IsSame d (λ env. replicator_calls r env line)
replicator_calls_same d None h line e f m = refl
replicator_calls_same d (Some r) h line e f m =
    two_calls _ _ _ _ ((expr_stays d r.base (left_false (expr_depends d r.base) (expr_depends d r.count) h)).calls line e f m) ((expr_stays d r.count (right_false (expr_depends d r.base) (expr_depends d r.count) h)).calls line e f m)

form_calls_same : (d : ℕ) (x : TypedForm) → form_depends d x ≡ false → (line : Location) → IsSame d (λ env. form_calls x env line)
form_calls_same d form.Declaration h line e f m = refl
form_calls_same d (form.Abbreviation el) h line e f m = (element_same d el h).calls line e f m
form_calls_same d (form.Retyped el) h line e f m = (element_same d el h).calls line e f m
form_calls_same d (form.Value x) h line e f m = (expr_same d x h).calls line e f m
form_calls_same d (form.RetypedValue x) h line e f m = (expr_same d x h).calls line e f m
form_calls_same d (form.OneLineFunction formals results) h line e f m = refl
form_calls_same d form.DataType h line e f m = refl
form_calls_same d form.Protocol h line e f m = refl
form_calls_same d (form.Uses interfaces) h line e f m = refl
form_calls_same d form.ProcedureHead h line e f m = refl
form_calls_same d form.FunctionHead h line e f m = refl
form_calls_same d form.RecordHead h line e f m = refl
form_calls_same d form.ProtocolHead h line e f m = refl
form_calls_same d form.Member h line e f m = refl
form_calls_same d form.Close h line e f m = refl
form_calls_same d form.Skip h line e f m = refl
form_calls_same d form.Stop h line e f m = refl
form_calls_same d (form.Assignment els es) h line e f m =
    two_calls _ _ _ _ (each_calls_same d es (left_false (exprs_depend d es) (elements_depend d els) h) line e f m) (elements_calls_same d els (right_false (exprs_depend d es) (elements_depend d els) h) line e f m)
form_calls_same d (form.Output el os) h line e f m =
    two_calls _ _ _ _ ((element_stays d el (left_false (element_depends d el) (outputs_depend d os) h)).calls line e f m) (outputs_calls_same d os (right_false (element_depends d el) (outputs_depend d os) h) line e f m)
form_calls_same d (form.Input i) h line e f m = input_calls_same d i h line e f m
form_calls_same d (form.Instance callee xs) h line e f m = call_calls_same d callee.spec (actual_views xs) (all_actuals_stay d xs h) line e f m
form_calls_same d (form.Block k r) h line e f m = replicator_calls_same d r h line e f m
form_calls_same d (form.While x) h line e f m = (expr_stays d x h).calls line e f m
form_calls_same d (form.Selection x) h line e f m = (expr_stays d x h).calls line e f m
form_calls_same d (form.CaseInput el) h line e f m = (element_stays d el h).calls line e f m
form_calls_same d (form.Condition x) h line e f m = (expr_stays d x h).calls line e f m
form_calls_same d (form.Options es) h line e f m = refl
form_calls_same d form.Otherwise h line e f m = refl
form_calls_same d (form.Guard x g) h line e f m =
    two_calls _ _ _ _ ((expr_stays d x (left_false (expr_depends d x) (guard_depends d g) h)).calls line e f m) (guard_calls_same d g (right_false (expr_depends d x) (guard_depends d g) h) line e f m)
form_calls_same d (form.Variant place name ts) h line e f m = targets_calls_same d ts h line e f m
form_calls_same d form.ValueOf h line e f m = refl
form_calls_same d (form.Results es) h line e f m = each_calls_same d es h line e f m
form_calls_same d form.Unknown h line e f m = refl

-- ---- faults: what stands in scope has the same names

pub root_name_same : (d root : ℕ) → IsSame d (λ env. root_name env root)
root_name_same d root e f m = found_same name_of (λ v w. refl) d e f m root

two_faults : (a c x y : List Diag) → a ≡ c → x ≡ y → a ++ x ≡ c ++ y
two_faults a c x y p q = ap₂ (λ (us vs : List Diag). us ++ vs) p q

pair_same : (d : ℕ) (line : Location) (c : Code) (p q : Part) → IsSame d (λ env. pair_faults line c env p q)
pair_same d line c p q e f m = ap (λ (name : Option (List ℕ)). graded line c name (overlap_of p q)) (root_name_same d p.root e f m)

element_fault_same : (d n : ℕ) (p : Part) (u : Use) → IsSame d (λ env. element_fault n env p u)
element_fault_same d n p u e f m = ap (λ (ds : List Diag). if list_any (λ (k : ℕ). k == n) u.chain then [] else ds) (pair_same d u.line code.A1 p u.part e f m)

element_faults_same : (d n : ℕ) (p : Part) (us : List Use) → IsSame d (λ env. element_faults n env p us)
element_faults_same d n p [] e f m = refl
element_faults_same d n p (u ∷ us) e f m = two_faults _ _ _ _ (element_fault_same d n p u e f m) (element_faults_same d n p us e f m)

place_faults_same : (d n : ℕ) (p : Option SelectedPart) (us : List Use) → IsSame d (λ env. place_faults n env p us)
place_faults_same d n None us e f m = refl
place_faults_same d n (Some p) us e f m = element_faults_same d n (part_of p) us e f m

written_fault_same : (d : ℕ) (c : Code) (u r : Use) → IsSame d (λ env. written_fault c env u r)
written_fault_same d c u r e f m = ap (λ (ds : List Diag). if is_write u.kind && is_read r.kind then ds else []) (pair_same d u.line c u.part r.part e f m)

written_by_same : (d : ℕ) (c : Code) (u : Use) (rs : List Use) → IsSame d (λ env. written_by c env u rs)
written_by_same d c u [] e f m = refl
written_by_same d c u (r ∷ rs) e f m = two_faults _ _ _ _ (written_fault_same d c u r e f m) (written_by_same d c u rs e f m)

written_faults_same : (d : ℕ) (c : Code) (us rs : List Use) → IsSame d (λ env. written_faults c env us rs)
written_faults_same d c [] rs e f m = refl
written_faults_same d c (u ∷ us) rs e f m = two_faults _ _ _ _ (written_by_same d c u rs e f m) (written_faults_same d c us rs e f m)

bound_faults_same : (d n : ℕ) (x : Bound) (us : List Use) → IsSame d (λ env. bound_faults n env x us)
bound_faults_same d n (b.Abbreviation place size reads) us e f m = two_faults _ _ _ _ (place_faults_same d n place us e f m) (written_faults_same d code.A2 us reads e f m)
bound_faults_same d n (b.Value v size reads) us e f m = written_faults_same d code.A3 us reads e f m
bound_faults_same d n (b.Root name) us e f m = refl
bound_faults_same d n (b.Body uses does) us e f m = refl
bound_faults_same d n b.Other us e f m = refl

-- of the same specifications
scope_names_same : (d n : ℕ) (xs : List Bound) (us : List Use) → IsSame d (λ env. scope_faults n env xs us)
scope_names_same d n [] us e f m = refl
scope_names_same d n (x ∷ xs) us e f m = two_faults _ _ _ _ (bound_faults_same d n x us e f m) (scope_names_same d (n + 1) xs us e f m)

-- a value that reads nothing reports nothing
scope_value_same : (n : ℕ) (env before after : Env) (v w : Option Value) (us : List Use)
    → scope_faults n env (before ++ b.Value v None [] ∷ after) us ≡ scope_faults n env (before ++ b.Value w None [] ∷ after) us
scope_value_same n env [] after v w us = refl
scope_value_same n env (x ∷ xs) after v w us = ap (λ (ds : List Diag). bound_faults n env x us ++ ds) (scope_value_same (n + 1) env xs after v w us)

scope_same : (d : ℕ) (us : List Use) → IsSame d (λ env. scope_faults 0 env env us)
scope_same d us e f m =
    scope_names_same d 0 e us e f m
    ∙ ap (λ (env : Env). scope_faults 0 f env us) m.one
    ∙ scope_value_same 0 f m.before m.after m.v m.w us
    ∙ sym (ap (λ (env : Env). scope_faults 0 f env us) m.other)

-- ---- faults of calls

place_pair_same : (d : ℕ) (line : Location) (p : Part) (q : Option SelectedPart) → IsSame d (λ env. place_pair line env p q)
place_pair_same d line p None e f m = refl
place_pair_same d line p (Some q) e f m = pair_same d line code.A4 p (part_of q) e f m

place_pairs_same : (d : ℕ) (line : Location) (p : Part) (qs : List (Option SelectedPart)) → IsSame d (λ env. place_pairs line env p qs)
place_pairs_same d line p [] e f m = refl
place_pairs_same d line p (q ∷ qs) e f m = two_faults _ _ _ _ (place_pair_same d line p q e f m) (place_pairs_same d line p qs e f m)

free_fault_same : (d : ℕ) (line : Location) (n : ℕ) (p : Part) (u : Use) → IsSame d (λ env. free_fault line n env p u)
free_fault_same d line n p u e f m = ap (λ (ds : List Diag). if nat_lt u.part.root n then ds else []) (pair_same d line code.A4 p u.part e f m)

free_faults_same : (d : ℕ) (line : Location) (n : ℕ) (p : Part) (us : List Use) → IsSame d (λ env. free_faults line n env p us)
free_faults_same d line n p [] e f m = refl
free_faults_same d line n p (u ∷ us) e f m = two_faults _ _ _ _ (free_fault_same d line n p u e f m) (free_faults_same d line n p us e f m)

actual_faults_same : (d : ℕ) (line : Location) (n : ℕ) (us : List Use) (p : Option SelectedPart) (qs : List (Option SelectedPart)) → IsSame d (λ env. actual_faults line n env us p qs)
actual_faults_same d line n us None qs e f m = refl
actual_faults_same d line n us (Some p) qs e f m = two_faults _ _ _ _ (place_pairs_same d line (part_of p) qs e f m) (free_faults_same d line n (part_of p) us e f m)

actuals_faults_same : (d : ℕ) (line : Location) (n : ℕ) (us : List Use) (ps : List (Option SelectedPart)) → IsSame d (λ env. actuals_faults line n env us ps)
actuals_faults_same d line n us [] e f m = refl
actuals_faults_same d line n us (p ∷ ps) e f m = two_faults _ _ _ _ (actual_faults_same d line n us p ps e f m) (actuals_faults_same d line n us ps e f m)

call_faults_same : (d : ℕ) (line : Location) (c : Call) → IsSame d (λ env. call_faults line env c)
call_faults_same d line c e f m =
    two_faults _ _ _ _
    (ap (λ (us : List Use). actuals_faults line c.callee e us c.places) (found_same body_of (λ v w. refl) d e f m c.callee) ∙ actuals_faults_same d line c.callee (body_of (slice_get f c.callee)) c.places e f m)
    (written_faults_same d code.A4 c.uses c.reads e f m)

calls_faults_same : (d : ℕ) (line : Location) (cs : List Call) → IsSame d (λ env. calls_faults line env cs)
calls_faults_same d line [] e f m = refl
calls_faults_same d line (c ∷ cs) e f m = two_faults _ _ _ _ (call_faults_same d line c e f m) (calls_faults_same d line cs e f m)

-- ---- faults of a line

-- that uses and calls the same
evaluated_same : (d : ℕ) (line : Location) (e f : Env) → DifferAt d e f → (us vs : List Use) → us ≡ vs → (cs ds : List Call) → cs ≡ ds
    → evaluated_faults line e us cs ≡ evaluated_faults line f vs ds
evaluated_same d line e f m us vs p cs ds q =
    ap₂ (λ (xs : List Use) (ys : List Call). evaluated_faults line e xs ys) p q
    ∙ two_faults _ _ _ _ (scope_same d vs e f m) (calls_faults_same d line ds e f m)

results_same : (d : ℕ) (formals : List ScopeEntry) (results : List TypedExpr) → exprs_depend d results ≡ false → (line : Location) → IsSame d (λ env. results_faults formals results env line)
results_same d formals results h line e f m =
    let inner = differ_more d e f (entry_bounds formals) m in
    evaluated_same d line (e ++ entry_bounds formals) (f ++ entry_bounds formals) inner
    (each_uses results (e ++ entry_bounds formals) line) (each_uses results (f ++ entry_bounds formals) line) (each_uses_same d results h line (e ++ entry_bounds formals) (f ++ entry_bounds formals) inner)
    (each_calls results (e ++ entry_bounds formals) line) (each_calls results (f ++ entry_bounds formals) line) (each_calls_same d results h line (e ++ entry_bounds formals) (f ++ entry_bounds formals) inner)

-- a line that is no FUNCTION of one line
plain_same : (d : ℕ) (x : TypedForm) → form_depends d x ≡ false → (line : Location) (e f : Env) → DifferAt d e f
    → evaluated_faults line e (form_uses x e line) (form_calls x e line) ≡ evaluated_faults line f (form_uses x f line) (form_calls x f line)
plain_same d x h line e f m =
    evaluated_same d line e f m (form_uses x e line) (form_uses x f line) (form_uses_same d x h line e f m) (form_calls x e line) (form_calls x f line) (form_calls_same d x h line e f m)

pub line_faults_same : (d : ℕ) (x : TypedForm) → form_depends d x ≡ false → (line : Location) → IsSame d (λ env. line_faults x env line)
line_faults_same d (form.OneLineFunction formals results) h line e f m = results_same d formals results h line e f m
line_faults_same d form.Declaration h line e f m = plain_same d form.Declaration h line e f m
line_faults_same d (form.Abbreviation el) h line e f m = plain_same d (form.Abbreviation el) h line e f m
line_faults_same d (form.Retyped el) h line e f m = plain_same d (form.Retyped el) h line e f m
line_faults_same d (form.Value x) h line e f m = plain_same d (form.Value x) h line e f m
line_faults_same d (form.RetypedValue x) h line e f m = plain_same d (form.RetypedValue x) h line e f m
line_faults_same d form.DataType h line e f m = plain_same d form.DataType h line e f m
line_faults_same d form.Protocol h line e f m = plain_same d form.Protocol h line e f m
line_faults_same d (form.Uses interfaces) h line e f m = plain_same d (form.Uses interfaces) h line e f m
line_faults_same d form.ProcedureHead h line e f m = plain_same d form.ProcedureHead h line e f m
line_faults_same d form.FunctionHead h line e f m = plain_same d form.FunctionHead h line e f m
line_faults_same d form.RecordHead h line e f m = plain_same d form.RecordHead h line e f m
line_faults_same d form.ProtocolHead h line e f m = plain_same d form.ProtocolHead h line e f m
line_faults_same d form.Member h line e f m = plain_same d form.Member h line e f m
line_faults_same d form.Close h line e f m = plain_same d form.Close h line e f m
line_faults_same d form.Skip h line e f m = plain_same d form.Skip h line e f m
line_faults_same d form.Stop h line e f m = plain_same d form.Stop h line e f m
line_faults_same d (form.Assignment els es) h line e f m = plain_same d (form.Assignment els es) h line e f m
line_faults_same d (form.Output el os) h line e f m = plain_same d (form.Output el os) h line e f m
line_faults_same d (form.Input i) h line e f m = plain_same d (form.Input i) h line e f m
line_faults_same d (form.Instance callee xs) h line e f m = plain_same d (form.Instance callee xs) h line e f m
line_faults_same d (form.Block k r) h line e f m = plain_same d (form.Block k r) h line e f m
line_faults_same d (form.While x) h line e f m = plain_same d (form.While x) h line e f m
line_faults_same d (form.Selection x) h line e f m = plain_same d (form.Selection x) h line e f m
line_faults_same d (form.CaseInput el) h line e f m = plain_same d (form.CaseInput el) h line e f m
line_faults_same d (form.Condition x) h line e f m = plain_same d (form.Condition x) h line e f m
line_faults_same d (form.Options es) h line e f m = plain_same d (form.Options es) h line e f m
line_faults_same d form.Otherwise h line e f m = plain_same d form.Otherwise h line e f m
line_faults_same d (form.Guard x g) h line e f m = plain_same d (form.Guard x g) h line e f m
line_faults_same d (form.Variant place name ts) h line e f m = plain_same d (form.Variant place name ts) h line e f m
line_faults_same d form.ValueOf h line e f m = plain_same d form.ValueOf h line e f m
line_faults_same d (form.Results es) h line e f m = plain_same d (form.Results es) h line e f m
line_faults_same d form.Unknown h line e f m = plain_same d form.Unknown h line e f m
