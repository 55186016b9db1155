-- `t n RETYPES el:` and `VAL t n RETYPES e:`, and these with RESHAPES: a name for an element or a value, of another type.
use Rattle.std.specs.Prelude.{ℕ, Option, Some, None, List, [], ◌∷◌, ◌++◌}
use Rattle.occ_types.specs.declared.types.OccType.{OccType}
use Rattle.occ_base.specs.declared.fault.Fault.{Fault}
use Rattle.occ_typing_operands.specs.Settling.{Finding, known, silent}
use Rattle.occ_typing_operands.specs.declared.kind.Kind.{Kind}
use Rattle.occ_typing_operands.specs.declared.kind.Kind.TheVariants as k
use Rattle.occ_scope.specs.declared.scope.Scope.{Scope}
use Rattle.occ_typing_tables.specs.Terms.{Judged, judged}
use Rattle.occ_forms_expressions.specs.declared.tree.Element.{Element}
use Rattle.occ_forms_expressions.specs.declared.tree.Expr.{Expr}
use Rattle.occ_forms_expressions.specs.declared.tree.TypeForm.{TypeForm}
use Rattle.occ_forms.specs.declared.specification_tree.Recast.{Recast as Form}
use Rattle.occ_forms.specs.declared.specification_tree.Recast.TheVariants as form
use Rattle.occ_expr_operations.specs.Parts.{after}
use Rattle.occ_expr_operations.specs.Views.{expr_view, type_form_view}
use Rattle.occ_expr_operations.specs.declared.written.Opening.TheVariants as opening
use Rattle.occ_typing_rules.specs.Recasting.{Recast, reshaped, retyped}
use Rattle.occ_typing_rules.specs.declared.expr.TypedExpr.{TypedExpr}
use Rattle.occ_typing_specifications.specs.Entering.{Declared}
use Rattle.occ_typing_specifications.specs.Valuing.{kind_unless_reported, value_name}
use Rattle.occ_typing_rules.specs.Abbreviating.{abbreviated}
use Rattle.occ_typing_rules.specs.Placing.{tree_of}
use Rattle.occ_expr.specs.Targets.{target_of}
use Rattle.occ_typing_specifications.specs.Abbreviating.{named}

-- ---- one type as another

abbrev pub recast : Form → OccType → OccType → Recast
recast form.Retypes to from = retyped to from
recast form.Reshapes to from = reshaped to from

abbrev pub of_found : Option OccType → Kind
of_found None = k.Faulty
of_found (Some of) = known of None

abbrev pub reported : Recast → Finding
reported x = record { faults = x.faults; kind = of_found x.found }

-- nothing is asked where the type or what is looked at has a fault; nothing that is looked at so is a constant
abbrev pub recast_as : Form → Option OccType → Kind → Finding
recast_as w None kind = silent
recast_as w (Some to) k.Faulty = silent
recast_as w (Some to) (k.Untyped f) = silent
recast_as w (Some to) (k.Known x) = reported (recast w to x.of)

-- ---- of an element, which is read as a target is

unfoldable pub element_reported : Scope → Form → TypeForm → Element → Finding
element_reported s w of el =
    let to = type_form_view of opening.Allowed s in
    let x = target_of s el in
    after (to.faults ++ x.faults) (recast_as w to.found x.kind)

unfoldable pub recast_element : Scope → Form → TypeForm → List ℕ → Element → Declared
recast_element s w of name el = named s name el (element_reported s w of el)

-- ---- of a value, of which no type is wanted, and which is data

-- beside a type that is not known nothing is said of a channel or a timer
abbrev pub source_faults : Option OccType → Judged → List Fault
source_faults None x = x.alone.faults
source_faults (Some to) x = (abbreviated x).faults

abbrev pub sourced : Option OccType → Judged → Finding
sourced to x = record { faults = source_faults to x; kind = (abbreviated x).kind }

unfoldable pub source : Scope → Option OccType → Expr → Finding
source s to e = let x = (expr_view e).said s in after x.faults (sourced to (judged x.term))

unfoldable pub value_reported : Scope → Form → TypeForm → Expr → Finding
value_reported s w of e =
    let to = type_form_view of opening.Allowed s in
    let x = source s to.found e in
    after (to.faults ++ x.faults) (recast_as w to.found x.kind)

-- the tree of the value, in its own type
unfoldable pub source_tree : Scope → Expr → Option TypedExpr
source_tree s e = tree_of (abbreviated (judged ((expr_view e).said s).term)).kind ((expr_view e).open_expr s)

unfoldable pub recast_value : Scope → Form → TypeForm → List ℕ → Expr → Declared
recast_value s w of name e =
    let x = value_reported s w of e in
    record { faults = x.faults; adds = (record { name = name; meaning = value_name (kind_unless_reported x.faults x.kind) name }) ∷ [] }
