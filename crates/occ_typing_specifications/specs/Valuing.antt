-- `VAL n IS e:` and `VAL t n IS e:`.
use Rattle.std.specs.Prelude.{ℕ, Option, Some, None, List, [], ◌∷◌, ◌++◌}
use Rattle.occ_types.specs.declared.types.OccType.{OccType}
use Rattle.occ_typing_operands.specs.Settling.{Finding}
use Rattle.occ_base.specs.declared.fault.Fault.{Fault}
use Rattle.occ_typing_operands.specs.declared.kind.Kind.{Kind}
use Rattle.occ_typing_operands.specs.declared.kind.Kind.TheVariants as k
use Rattle.occ_scope.specs.declared.meaning.Access.TheVariants as access
use Rattle.occ_scope.specs.declared.meaning.Meaning.{Meaning}
use Rattle.occ_scope.specs.declared.meaning.Meaning.TheVariants as m
use Rattle.occ_scope.specs.declared.scope.Scope.{Scope}
use Rattle.occ_typing_tables.specs.Terms.{Judged, judged}
use Rattle.occ_forms_expressions.specs.declared.tree.Expr.{Expr}
use Rattle.occ_forms_expressions.specs.declared.tree.TypeForm.{TypeForm}
use Rattle.occ_expr_operations.specs.Parts.{after}
use Rattle.occ_expr_operations.specs.Views.{expr_view, type_form_view}
use Rattle.occ_expr_operations.specs.declared.written.Opening.TheVariants as opening
use Rattle.occ_typing_rules.specs.Abbreviating.{abbreviated, abbreviated_as}
use Rattle.occ_typing_specifications.specs.Entering.{Declared}
use Rattle.occ_typing_rules.specs.Placing.{tree_of}
use Rattle.occ_typing_rules.specs.declared.expr.TypedExpr.{TypedExpr}

-- a type that is not known hides what is wanted of the value
unfoldable pub value_as : Option OccType → Judged → Finding
value_as None x = record { faults = x.hidden.faults; kind = k.Faulty }
value_as (Some of) x = abbreviated_as of x

unfoldable pub value_alone : Scope → Expr → Finding
value_alone s e = let x = (expr_view e).said s in after x.faults (abbreviated (judged x.term))

-- the type, then the expression, then the one for the other
unfoldable pub value_with_type : Scope → TypeForm → Expr → Finding
value_with_type s of e =
    let to = type_form_view of opening.Allowed s in
    let x = (expr_view e).said s in
    after (to.faults ++ x.faults) (value_as to.found (judged x.term))

abbrev pub value_reported : Scope → Option TypeForm → Expr → Finding
value_reported s None e = value_alone s e
value_reported s (Some of) e = value_with_type s of e

unfoldable pub value_tree : Scope → Option TypeForm → Expr → Option TypedExpr
value_tree s of e = tree_of (value_reported s of e).kind ((expr_view e).open_expr s)

-- the name of a value of which this is known
abbrev pub value_name : Kind → List ℕ → Meaning
value_name k.Faulty name = m.Faulty
value_name (k.Untyped f) name = m.Faulty
value_name (k.Known x) name = m.Element (record { of = x.of; access = access.Value; value = x.value; root = name })

abbrev pub kind_unless_reported : List Fault → Kind → Kind
kind_unless_reported [] kind = kind
kind_unless_reported (fault ∷ faults) kind = k.Faulty

unfoldable pub value : Scope → Option TypeForm → List ℕ → Expr → Declared
value s of name e =
    let x = value_reported s of e in
    record { faults = x.faults; adds = (record { name = name; meaning = value_name (kind_unless_reported x.faults x.kind) name }) ∷ [] }
