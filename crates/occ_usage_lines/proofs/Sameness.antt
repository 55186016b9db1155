-- What a line uses, whether it has an effect and what comes into scope by it is the same in scopes that differ in the value of a
-- specification alone, if the line does not depend on it.
use Rattle.std.proofs.Common.{◌≡◌, ◌∙◌, ◌++◌, ◌||◌, ℕ, Bool, false, Option, Some, None, List, [], ◌∷◌, length, length-append, refl, ap, ap₂, sym, append_assoc}
use Rattle.occ_project.specs.declared.expanded.Location.{Location}
use Rattle.occ_scope.specs.declared.meaning.ScopeEntry.{ScopeEntry}
use Rattle.occ_types.specs.declared.interface.UseKind.{UseKind}
use Rattle.occ_types.specs.declared.interface.UseKind.TheVariants as kind
use Rattle.occ_typing_lines.specs.declared.tree.TypedForm.{TypedForm}
use Rattle.occ_typing_lines.specs.declared.tree.TypedForm.TheVariants as form
use Rattle.occ_typing_lines.specs.declared.tree.TypedGuard.{TypedGuard}
use Rattle.occ_typing_lines.specs.declared.tree.TypedGuard.TheVariants as guard
use Rattle.occ_typing_rules.specs.declared.expr.TypedElement.{TypedElement}
use Rattle.occ_typing_rules.specs.declared.expr.TypedExpr.{TypedExpr}
use Rattle.occ_typing_statements.specs.declared.exchange_tree.TypedInput.{TypedInput}
use Rattle.occ_typing_statements.specs.declared.exchange_tree.TypedInput.TheVariants as input
use Rattle.occ_typing_statements.specs.declared.exchange_tree.TypedOutput.{TypedOutput}
use Rattle.occ_typing_statements.specs.declared.exchange_tree.TypedOutput.TheVariants as output
use Rattle.occ_typing_statements.specs.declared.exchange_tree.TypedTarget.{TypedTarget}
use Rattle.occ_typing_statements.specs.declared.exchange_tree.TypedTarget.TheVariants as target
use Rattle.occ_typing_statements.specs.declared.replicator_tree.TypedReplicator.{TypedReplicator}
use Rattle.occ_usage_conflicts.specs.Bodies.{body_uses}
use Rattle.occ_usage_parts.specs.declared.place.SelectedPart.{SelectedPart}
use Rattle.occ_usage_values.specs.Bounds.{Env}
use Rattle.occ_usage_values.specs.Calls.{made}
use Rattle.occ_usage_values.specs.Differing.{DifferAt, IsSame}
use Rattle.occ_usage_values.specs.Naming.{element_depends, element_names, expr_depends, expr_names, exprs_depend}
use Rattle.occ_usage_values.specs.Views.{actual_views, element_view, expr_view}
use Rattle.occ_usage_values.specs.declared.bound.Bound.{Bound}
use Rattle.occ_usage_values.specs.declared.bound.Bound.TheVariants as b
use Rattle.occ_usage_values.specs.declared.uses.Use.{Use}
use Rattle.occ_usage_values.proofs.Differing.{call_effect_same, call_uses_same, left_false, right_false}
use Rattle.occ_usage_values.proofs.Depending.{all_actuals_stay, element_stays, expr_stays}
use Rattle.occ_usage_values.proofs.Sameness.{element_same, expr_same}
use Rattle.occ_usage_lines.specs.Effects.{calls_effect, communicates, each_effect, elements_effect, form_effect, replicator_effect, target_effect, targets_effect}
use Rattle.occ_usage_lines.specs.Entering.{abbreviated, body_bound, entry_bounds, interface_bounds, looked_at, named_at, one_line, retyped, specified, valued}
use Rattle.occ_usage_lines.specs.Forms.{each_uses, form_uses, guard_uses, input_uses, output_uses, outputs_uses, replicator_uses, target_uses, targets_uses, used, written}
use Rattle.occ_usage_lines.specs.Naming.{elements_depend, form_depends, guard_depends, input_depends, output_depends, outputs_depend, replicator_depends, target_depends, targets_depend}
use Rattle.occ_types.specs.declared.value.Value.{Value}
use Rattle.std.specs.Prelude.{ℤ}

-- ---- uses

pub used_same : (d : ℕ) (k : UseKind) (el : TypedElement) → element_depends d el ≡ false → (line : Location) → IsSame d (λ env. used k el env line)
used_same d k el h line e f m = ap₂ (λ (us : List Use) (p : Option SelectedPart). us ++ made line k p) ((element_stays d el h).uses line e f m) ((element_stays d el h).place e f m)

two_uses : (a : List Use) (c : List Use) (x : List Use) (y : List Use) → a ≡ c → x ≡ y → a ++ x ≡ c ++ y
two_uses a c x y p q = ap₂ (λ (us vs : List Use). us ++ vs) p q

pub each_uses_same : (d : ℕ) (xs : List TypedExpr) → exprs_depend d xs ≡ false → (line : Location) → IsSame d (λ env. each_uses xs env line)
each_uses_same d [] h line e f m = refl
each_uses_same d (x ∷ xs) h line e f m =
    two_uses _ _ _ _ ((expr_stays d x (left_false (expr_depends d x) (exprs_depend d xs) h)).uses line e f m) (each_uses_same d xs (right_false (expr_depends d x) (exprs_depend d xs) h) line e f m)

written_same : (d : ℕ) (xs : List TypedElement) → elements_depend d xs ≡ false → (line : Location) → IsSame d (λ env. written xs env line)
written_same d [] h line e f m = refl
written_same d (x ∷ xs) h line e f m =
    two_uses _ _ _ _ (used_same d kind.Write x (left_false (element_depends d x) (elements_depend d xs) h) line e f m) (written_same d xs (right_false (element_depends d x) (elements_depend d xs) h) line e f m)

target_uses_same : (d : ℕ) (t : TypedTarget) → target_depends d t ≡ false → (line : Location) → IsSame d (λ env. target_uses t env line)
target_uses_same d (target.Single el) h line e f m = used_same d kind.Write el h line e f m
target_uses_same d (target.Counted count el) h line e f m =
    two_uses _ _ _ _ (used_same d kind.Write count (left_false (element_depends d count) (element_depends d el) h) line e f m) (used_same d kind.Write el (right_false (element_depends d count) (element_depends d el) h) line e f m)

targets_uses_same : (d : ℕ) (xs : List TypedTarget) → targets_depend d xs ≡ false → (line : Location) → IsSame d (λ env. targets_uses xs env line)
targets_uses_same d [] h line e f m = refl
targets_uses_same d (x ∷ xs) h line e f m =
    two_uses _ _ _ _ (target_uses_same d x (left_false (target_depends d x) (targets_depend d xs) h) line e f m) (targets_uses_same d xs (right_false (target_depends d x) (targets_depend d xs) h) line e f m)

output_uses_same : (d : ℕ) (o : TypedOutput) → output_depends d o ≡ false → (line : Location) → IsSame d (λ env. output_uses o env line)
output_uses_same d (output.Value x) h line e f m = (expr_stays d x h).uses line e f m
output_uses_same d (output.Counted x y) h line e f m =
    two_uses _ _ _ _ ((expr_stays d x (left_false (expr_depends d x) (expr_depends d y) h)).uses line e f m) ((expr_stays d y (right_false (expr_depends d x) (expr_depends d y) h)).uses line e f m)
output_uses_same d (output.Tag place name) h line e f m = refl

outputs_uses_same : (d : ℕ) (xs : List TypedOutput) → outputs_depend d xs ≡ false → (line : Location) → IsSame d (λ env. outputs_uses xs env line)
outputs_uses_same d [] h line e f m = refl
outputs_uses_same d (x ∷ xs) h line e f m =
    two_uses _ _ _ _ (output_uses_same d x (left_false (output_depends d x) (outputs_depend d xs) h) line e f m) (outputs_uses_same d xs (right_false (output_depends d x) (outputs_depend d xs) h) line e f m)

input_uses_same : (d : ℕ) (i : TypedInput) → input_depends d i ≡ false → (line : Location) → IsSame d (λ env. input_uses i env line)
input_uses_same d (input.Plain el ts) h line e f m =
    two_uses _ _ _ _ (used_same d kind.Input el (left_false (element_depends d el) (targets_depend d ts) h) line e f m) (targets_uses_same d ts (right_false (element_depends d el) (targets_depend d ts) h) line e f m)
input_uses_same d (input.Time el t) h line e f m =
    two_uses _ _ _ _ (used_same d kind.Input el (left_false (element_depends d el) (element_depends d t) h) line e f m) (used_same d kind.Write t (right_false (element_depends d el) (element_depends d t) h) line e f m)
input_uses_same d (input.After el x) h line e f m =
    two_uses _ _ _ _ (used_same d kind.Input el (left_false (element_depends d el) (expr_depends d x) h) line e f m) ((expr_stays d x (right_false (element_depends d el) (expr_depends d x) h)).uses line e f m)
input_uses_same d (input.Tagged el place name ts) h line e f m =
    two_uses _ _ _ _ (used_same d kind.Input el (left_false (element_depends d el) (targets_depend d ts) h) line e f m) (targets_uses_same d ts (right_false (element_depends d el) (targets_depend d ts) h) line e f m)

guard_uses_same : (d : ℕ) (g : TypedGuard) → guard_depends d g ≡ false → (line : Location) → IsSame d (λ env. guard_uses g env line)
guard_uses_same d guard.Skip h line e f m = refl
guard_uses_same d (guard.Input i) h line e f m = input_uses_same d i h line e f m
guard_uses_same d (guard.CaseInput el) h line e f m = used_same d kind.Input el h line e f m

replicator_uses_same : (d : ℕ) (r : Option TypedReplicator) → replicator_depends d r ≡ false → (line : Location) → IsSame d (λ env. replicator_uses r env line)
replicator_uses_same d None h line e f m = refl
replicator_uses_same d (Some r) h line e f m =
    two_uses _ _ _ _ ((expr_stays d r.base (left_false (expr_depends d r.base) (expr_depends d r.count) h)).uses line e f m) ((expr_stays d r.count (right_false (expr_depends d r.base) (expr_depends d r.count) h)).uses line e f m)

pub form_uses_same : (d : ℕ) (x : TypedForm) → form_depends d x ≡ false → (line : Location) → IsSame d (λ env. form_uses x env line)
form_uses_same d form.Declaration h line e f m = refl
form_uses_same d (form.Abbreviation el) h line e f m = (element_same d el h).uses line e f m
form_uses_same d (form.Retyped el) h line e f m = (element_same d el h).uses line e f m
form_uses_same d (form.Value x) h line e f m = (expr_same d x h).uses line e f m
form_uses_same d (form.RetypedValue x) h line e f m = (expr_same d x h).uses line e f m
form_uses_same d (form.OneLineFunction formals results) h line e f m = refl
form_uses_same d form.DataType h line e f m = refl
form_uses_same d form.Protocol h line e f m = refl
form_uses_same d (form.Uses interfaces) h line e f m = refl
form_uses_same d form.ProcedureHead h line e f m = refl
form_uses_same d form.FunctionHead h line e f m = refl
form_uses_same d form.RecordHead h line e f m = refl
form_uses_same d form.ProtocolHead h line e f m = refl
form_uses_same d form.Member h line e f m = refl
form_uses_same d form.Close h line e f m = refl
form_uses_same d form.Skip h line e f m = refl
form_uses_same d form.Stop h line e f m = refl
form_uses_same d (form.Assignment els es) h line e f m =
    two_uses _ _ _ _ (each_uses_same d es (left_false (exprs_depend d es) (elements_depend d els) h) line e f m) (written_same d els (right_false (exprs_depend d es) (elements_depend d els) h) line e f m)
form_uses_same d (form.Output el os) h line e f m =
    two_uses _ _ _ _ (used_same d kind.Output el (left_false (element_depends d el) (outputs_depend d os) h) line e f m) (outputs_uses_same d os (right_false (element_depends d el) (outputs_depend d os) h) line e f m)
form_uses_same d (form.Input i) h line e f m = input_uses_same d i h line e f m
form_uses_same d (form.Instance callee xs) h line e f m = call_uses_same d callee.spec (actual_views xs) (all_actuals_stay d xs h) line e f m
form_uses_same d (form.Block k r) h line e f m = replicator_uses_same d r h line e f m
form_uses_same d (form.While x) h line e f m = (expr_stays d x h).uses line e f m
form_uses_same d (form.Selection x) h line e f m = (expr_stays d x h).uses line e f m
form_uses_same d (form.CaseInput el) h line e f m = used_same d kind.Input el h line e f m
form_uses_same d (form.Condition x) h line e f m = (expr_stays d x h).uses line e f m
form_uses_same d (form.Options es) h line e f m = refl
form_uses_same d form.Otherwise h line e f m = refl
form_uses_same d (form.Guard x g) h line e f m =
    two_uses _ _ _ _ ((expr_stays d x (left_false (expr_depends d x) (guard_depends d g) h)).uses line e f m) (guard_uses_same d g (right_false (expr_depends d x) (guard_depends d g) h) line e f m)
form_uses_same d (form.Variant place name ts) h line e f m = targets_uses_same d ts h line e f m
form_uses_same d form.ValueOf h line e f m = refl
form_uses_same d (form.Results es) h line e f m = each_uses_same d es h line e f m
form_uses_same d form.Unknown h line e f m = refl

-- ---- effects

two_tests : (a c x y : Bool) → a ≡ c → x ≡ y → (a || x) ≡ (c || y)
two_tests a c x y p q = ap₂ (λ (u v : Bool). u || v) p q

pub each_effect_same : (d : ℕ) (xs : List TypedExpr) → exprs_depend d xs ≡ false → IsSame d (each_effect xs)
each_effect_same d [] h e f m = refl
each_effect_same d (x ∷ xs) h e f m =
    two_tests _ _ _ _ ((expr_stays d x (left_false (expr_depends d x) (exprs_depend d xs) h)).effect e f m) (each_effect_same d xs (right_false (expr_depends d x) (exprs_depend d xs) h) e f m)

elements_effect_same : (d : ℕ) (xs : List TypedElement) → elements_depend d xs ≡ false → IsSame d (elements_effect xs)
elements_effect_same d [] h e f m = refl
elements_effect_same d (x ∷ xs) h e f m =
    two_tests _ _ _ _ ((element_stays d x (left_false (element_depends d x) (elements_depend d xs) h)).effect e f m) (elements_effect_same d xs (right_false (element_depends d x) (elements_depend d xs) h) e f m)

target_effect_same : (d : ℕ) (t : TypedTarget) → target_depends d t ≡ false → IsSame d (target_effect t)
target_effect_same d (target.Single el) h e f m = (element_stays d el h).effect e f m
target_effect_same d (target.Counted count el) h e f m =
    two_tests _ _ _ _ ((element_stays d count (left_false (element_depends d count) (element_depends d el) h)).effect e f m) ((element_stays d el (right_false (element_depends d count) (element_depends d el) h)).effect e f m)

targets_effect_same : (d : ℕ) (xs : List TypedTarget) → targets_depend d xs ≡ false → IsSame d (targets_effect xs)
targets_effect_same d [] h e f m = refl
targets_effect_same d (x ∷ xs) h e f m =
    two_tests _ _ _ _ (target_effect_same d x (left_false (target_depends d x) (targets_depend d xs) h) e f m) (targets_effect_same d xs (right_false (target_depends d x) (targets_depend d xs) h) e f m)

replicator_effect_same : (d : ℕ) (r : Option TypedReplicator) → replicator_depends d r ≡ false → IsSame d (replicator_effect r)
replicator_effect_same d None h e f m = refl
replicator_effect_same d (Some r) h e f m =
    two_tests _ _ _ _ ((expr_stays d r.base (left_false (expr_depends d r.base) (expr_depends d r.count) h)).effect e f m) ((expr_stays d r.count (right_false (expr_depends d r.base) (expr_depends d r.count) h)).effect e f m)

calls_effect_same : (d : ℕ) (x : TypedForm) → form_depends d x ≡ false → IsSame d (calls_effect x)
calls_effect_same d form.Declaration h e f m = refl
calls_effect_same d (form.Abbreviation el) h e f m = (element_same d el h).effect e f m
calls_effect_same d (form.Retyped el) h e f m = (element_same d el h).effect e f m
calls_effect_same d (form.Value x) h e f m = (expr_same d x h).effect e f m
calls_effect_same d (form.RetypedValue x) h e f m = (expr_same d x h).effect e f m
calls_effect_same d (form.OneLineFunction formals results) h e f m = refl
calls_effect_same d form.DataType h e f m = refl
calls_effect_same d form.Protocol h e f m = refl
calls_effect_same d (form.Uses interfaces) h e f m = refl
calls_effect_same d form.ProcedureHead h e f m = refl
calls_effect_same d form.FunctionHead h e f m = refl
calls_effect_same d form.RecordHead h e f m = refl
calls_effect_same d form.ProtocolHead h e f m = refl
calls_effect_same d form.Member h e f m = refl
calls_effect_same d form.Close h e f m = refl
calls_effect_same d form.Skip h e f m = refl
calls_effect_same d form.Stop h e f m = refl
calls_effect_same d (form.Assignment els es) h e f m =
    two_tests _ _ _ _ (each_effect_same d es (left_false (exprs_depend d es) (elements_depend d els) h) e f m) (elements_effect_same d els (right_false (exprs_depend d es) (elements_depend d els) h) e f m)
calls_effect_same d (form.Output el os) h e f m = refl
calls_effect_same d (form.Input i) h e f m = refl
calls_effect_same d (form.Instance callee xs) h e f m = call_effect_same d callee.spec (actual_views xs) (all_actuals_stay d xs h) e f m
calls_effect_same d (form.Block k r) h e f m = replicator_effect_same d r h e f m
calls_effect_same d (form.While x) h e f m = (expr_stays d x h).effect e f m
calls_effect_same d (form.Selection x) h e f m = (expr_stays d x h).effect e f m
calls_effect_same d (form.CaseInput el) h e f m = refl
calls_effect_same d (form.Condition x) h e f m = (expr_stays d x h).effect e f m
calls_effect_same d (form.Options es) h e f m = refl
calls_effect_same d form.Otherwise h e f m = refl
calls_effect_same d (form.Guard x g) h e f m = (expr_stays d x (left_false (expr_depends d x) (guard_depends d g) h)).effect e f m
calls_effect_same d (form.Variant place name ts) h e f m = targets_effect_same d ts h e f m
calls_effect_same d form.ValueOf h e f m = refl
calls_effect_same d (form.Results es) h e f m = each_effect_same d es h e f m
calls_effect_same d form.Unknown h e f m = refl

pub form_effect_same : (d : ℕ) (x : TypedForm) → form_depends d x ≡ false → IsSame d (form_effect x)
form_effect_same d x h e f m = ap (λ (t : Bool). communicates x || t) (calls_effect_same d x h e f m)

-- ---- what comes into scope

pub length_same : (d : ℕ) → IsSame d length
length_same d e f m =
    ap length m.one ∙ length-append m.before (b.Value m.v None [] ∷ m.after) ∙ sym (length-append m.before (b.Value m.w None [] ∷ m.after)) ∙ sym (ap length m.other)

-- more in scope
pub differ_more : (d : ℕ) (e f more : Env) → DifferAt d e f → DifferAt d (e ++ more) (f ++ more)
differ_more d e f more m = record {
  before = m.before;
  after = m.after ++ more;
  v = m.v;
  w = m.w;
  number = m.number;
  one = ap (λ (env : Env). env ++ more) m.one ∙ append_assoc m.before (b.Value m.v None [] ∷ m.after) more;
  other = ap (λ (env : Env). env ++ more) m.other ∙ append_assoc m.before (b.Value m.w None [] ∷ m.after) more;
}

abbreviated_same : (d : ℕ) (el : TypedElement) → element_names d el ≡ false → (line : Location) → IsSame d (λ env. abbreviated el env line)
abbreviated_same d el h line e f m =
    ap₂ (λ (n : ℕ) (p : Option SelectedPart). b.Abbreviation (named_at n p) ((element_view el).size e) ((element_view el).uses e line)) (length_same d e f m) ((element_same d el h).place e f m)
    ∙ ap₂ (λ (n : Option ℤ) (us : List Use). b.Abbreviation (named_at (length f) ((element_view el).place f)) n us) ((element_same d el h).size e f m) ((element_same d el h).uses line e f m)

retyped_same : (d : ℕ) (el : TypedElement) → element_names d el ≡ false → (line : Location) → IsSame d (λ env. retyped el env line)
retyped_same d el h line e f m =
    ap₂ (λ (n : ℕ) (p : Option SelectedPart). b.Abbreviation (named_at n (looked_at p)) None ((element_view el).uses e line)) (length_same d e f m) ((element_same d el h).place e f m)
    ∙ ap (λ (us : List Use). b.Abbreviation (named_at (length f) (looked_at ((element_view el).place f))) None us) ((element_same d el h).uses line e f m)

valued_same : (d : ℕ) (x : TypedExpr) → expr_names d x ≡ false → (line : Location) → IsSame d (λ env. valued x env line)
valued_same d x h line e f m =
    ap₂ (λ (v : Option Value) (n : Option ℤ). b.Value v n ((expr_view x).uses e line)) ((expr_same d x h).value e f m) ((expr_same d x h).size e f m)
    ∙ ap (λ (us : List Use). b.Value ((expr_view x).value f) ((expr_view x).size f) us) ((expr_same d x h).uses line e f m)

one_line_same : (d : ℕ) (formals : List ScopeEntry) (results : List TypedExpr) → exprs_depend d results ≡ false → (line : Location) → IsSame d (λ env. one_line formals results env line)
one_line_same d formals results h line e f m =
    let inner = differ_more d e f (entry_bounds formals) m in
    ap₂ (λ (us : List Use) (t : Bool). body_bound (body_uses (length e) (length (e ++ entry_bounds formals)) line us) t)
    (each_uses_same d results h line (e ++ entry_bounds formals) (f ++ entry_bounds formals) inner) (each_effect_same d results h (e ++ entry_bounds formals) (f ++ entry_bounds formals) inner)
    ∙ ap₂ (λ (n k : ℕ). body_bound (body_uses n k line (each_uses results (f ++ entry_bounds formals) line)) (each_effect results (f ++ entry_bounds formals)))
    (length_same d e f m) (length_same d (e ++ entry_bounds formals) (f ++ entry_bounds formals) inner)

pub specified_same : (d : ℕ) (x : TypedForm) → form_depends d x ≡ false → (line : Location) (entries : List ScopeEntry) → IsSame d (λ env. specified env line entries x)
specified_same d form.Declaration h line entries e f m = refl
specified_same d (form.Abbreviation el) h line entries e f m = ap (λ (x : Bound). x ∷ []) (abbreviated_same d el h line e f m)
specified_same d (form.Retyped el) h line entries e f m = ap (λ (x : Bound). x ∷ []) (retyped_same d el h line e f m)
specified_same d (form.Value x) h line entries e f m = ap (λ (y : Bound). y ∷ []) (valued_same d x h line e f m)
specified_same d (form.RetypedValue x) h line entries e f m = ap (λ (us : List Use). b.Value None None us ∷ []) ((expr_same d x h).uses line e f m)
specified_same d (form.OneLineFunction formals results) h line entries e f m = ap (λ (x : Bound). x ∷ []) (one_line_same d formals results h line e f m)
specified_same d form.DataType h line entries e f m = refl
specified_same d form.Protocol h line entries e f m = refl
specified_same d (form.Uses interfaces) h line entries e f m = ap (λ (n : ℕ). interface_bounds n line interfaces) (length_same d e f m)
specified_same d form.ProcedureHead h line entries e f m = refl
specified_same d form.FunctionHead h line entries e f m = refl
specified_same d form.RecordHead h line entries e f m = refl
specified_same d form.ProtocolHead h line entries e f m = refl
specified_same d form.Member h line entries e f m = refl
specified_same d form.Close h line entries e f m = refl
specified_same d form.Skip h line entries e f m = refl
specified_same d form.Stop h line entries e f m = refl
specified_same d (form.Assignment els es) h line entries e f m = refl
specified_same d (form.Output el os) h line entries e f m = refl
specified_same d (form.Input i) h line entries e f m = refl
specified_same d (form.Instance callee xs) h line entries e f m = refl
specified_same d (form.Block k r) h line entries e f m = refl
specified_same d (form.While x) h line entries e f m = refl
specified_same d (form.Selection x) h line entries e f m = refl
specified_same d (form.CaseInput el) h line entries e f m = refl
specified_same d (form.Condition x) h line entries e f m = refl
specified_same d (form.Options es) h line entries e f m = refl
specified_same d form.Otherwise h line entries e f m = refl
specified_same d (form.Guard x g) h line entries e f m = refl
specified_same d (form.Variant place name ts) h line entries e f m = refl
specified_same d form.ValueOf h line entries e f m = refl
specified_same d (form.Results es) h line entries e f m = refl
specified_same d form.Unknown h line entries e f m = refl
