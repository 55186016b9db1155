-- What a line of a process reports by its elements and expressions, from what stands in scope.
use Rattle.std.specs.List.{list_any}
use Rattle.std.specs.Prelude.{ℕ, ℤ, Bool, List, ◌++◌}
use Rattle.std.specs.BTreeSet.{BTreeSet}
use Rattle.occ_types.specs.declared.types.OccType.{OccType}
use Rattle.occ_typing_operands.specs.Operators.{all_faults, kinds}
use Rattle.occ_typing_operands.specs.Settling.{Finding}
use Rattle.occ_base.specs.declared.fault.Fault.{Fault}
use Rattle.occ_typing_operands.specs.declared.kind.Kind.{Kind}
use Rattle.occ_typing_operands.specs.declared.kind.Kind.TheVariants as k
use Rattle.occ_scope.specs.declared.scope.Scope.{Scope}
use Rattle.occ_typing_tables.specs.Terms.{Judged, has_fault, hidden_faults, judged, judged_all}
use Rattle.occ_forms_expressions.specs.declared.tree.Element.{Element}
use Rattle.occ_forms_expressions.specs.declared.tree.Expr.{Expr}
use Rattle.occ_expr_operations.specs.Parts.{Said, after, in_scope, own_faults, terms}
use Rattle.occ_expr_operations.specs.Sides.{Side, side}
use Rattle.occ_expr_operations.specs.Views.{expr_view, expr_views}
use Rattle.occ_typing_rules.specs.Assigning.{assigned}
use Rattle.occ_typing_rules.specs.Choosing.{Chosen, condition as no_condition, options as chosen, selector as selecting}
use Rattle.occ_typing_rules.specs.Resulting.{hidden_results as hiding, results as resulting}
use Rattle.occ_typing_statements.specs.Targets.{targets}

abbrev pub said : Scope → List Expr → List Said
said s es = in_scope s (expr_views es)

-- one of them is faulty by itself, whether that was reported or is reported elsewhere
abbrev pub is_any_faulty : Scope → List Expr → Bool
is_any_faulty s es = list_any has_fault (judged_all (side s es).terms)

-- the targets, the values by themselves, and then one for the other
abbrev pub assigned_to : List Finding → Side → List Fault
assigned_to ts x = all_faults ts ++ (x.faults ++ assigned (kinds ts) (judged_all x.terms))

abbrev pub assignment : Scope → List Element → List Expr → List Fault
assignment s els es = assigned_to (targets s els) (side s es)

abbrev pub condition_by : Said → List Fault
condition_by x = x.faults ++ no_condition (judged x.term)

abbrev pub condition : Scope → Expr → List Fault
condition s e = condition_by ((expr_view e).said s)

abbrev pub selector_by : Said → Finding
selector_by x = after x.faults (selecting (judged x.term))

abbrev pub selector : Scope → Expr → Finding
selector s e = selector_by ((expr_view e).said s)

-- a faulty selector hides what is wanted of its options
abbrev pub options_hidden : BTreeSet ℤ → List Judged → Chosen
options_hidden before xs = record { faults = hidden_faults xs; numbers = before }

abbrev pub options_under : Kind → BTreeSet ℤ → List Judged → Chosen
options_under k.Faulty before xs = options_hidden before xs
options_under (k.Untyped f) before xs = options_hidden before xs
options_under (k.Known x) before xs = chosen x.of before xs

abbrev pub options_by : Kind → BTreeSet ℤ → List Said → Chosen
options_by kind before xs = let y = options_under kind before (judged_all (terms xs)) in record { faults = own_faults xs ++ y.faults; numbers = y.numbers }

abbrev pub options : Scope → Kind → BTreeSet ℤ → List Expr → Chosen
options s kind before es = options_by kind before (said s es)

abbrev pub results_by : List OccType → Side → List Fault
results_by types x = x.faults ++ resulting types (judged_all x.terms)

-- the results of a FUNCTION whose head has no fault
abbrev pub results : Scope → List OccType → List Expr → List Fault
results s types es = results_by types (side s es)

abbrev pub hidden_results_by : ℕ → Side → List Fault
hidden_results_by n x = x.faults ++ hiding n (judged_all x.terms)

-- the results of a FUNCTION whose head has a fault
abbrev pub hidden_results : Scope → ℕ → List Expr → List Fault
hidden_results s n es = hidden_results_by n (side s es)
