-- Instances of PROCs: lines of one call where a process stands.
use Rattle.std.specs.Prelude.{ℕ, Option, Some, None, List, [], ◌∷◌, ◌++◌}
use Rattle.occ_base.specs.declared.code.Code.TheVariants as code
use Rattle.occ_base.specs.declared.fault.Fault.{Fault}
use Rattle.occ_expr_operations.specs.Sides.{Called, Side, each_one, one_call}
use Rattle.occ_forms_expressions.specs.declared.tree.Expr.{Expr}
use Rattle.occ_scope.specs.Visible.{referent, visible}
use Rattle.occ_scope.specs.declared.meaning.Meaning.{Meaning}
use Rattle.occ_scope.specs.declared.meaning.Meaning.TheVariants as m
use Rattle.occ_scope.specs.declared.meaning.Referent.{Referent}
use Rattle.occ_scope.specs.declared.scope.Scope.{Scope}
use Rattle.occ_typing_tables.specs.Terms.{hidden_faults, judged_all}
use Rattle.occ_typing_rules.specs.declared.expr.TypedActual.{TypedActual}
use Rattle.occ_typing_statements.specs.Actuals.{actuals_faults, actuals_tree}
use Rattle.occ_typing_statements.specs.declared.instances.TypedInstance.{TypedInstance}

-- what is reported of a name that is called and stands for no procedure
abbrev pub no_procedure : List ℕ → Option Meaning → List Fault
no_procedure name None = (record { code = code.N1; name = Some name }) ∷ []
no_procedure name (Some m.Faulty) = []
no_procedure name (Some (m.Type None)) = []
no_procedure name (Some (m.Type (Some of))) = (record { code = code.N2; name = Some name }) ∷ []
no_procedure name (Some (m.Protocol p)) = (record { code = code.N2; name = Some name }) ∷ []
no_procedure name (Some (m.Procedure formals)) = []
no_procedure name (Some (m.Function formals results)) = (record { code = code.N2; name = Some name }) ∷ []
no_procedure name (Some (m.Element whole)) = (record { code = code.N2; name = Some name }) ∷ []

-- it is hidden what is wanted of its arguments
abbrev pub hidden_arguments : Side → List Fault
hidden_arguments x = x.faults ++ hidden_faults (judged_all x.terms)

abbrev pub no_instance : Scope → List ℕ → List Expr → List Fault
no_instance s name es = no_procedure name (visible s name) ++ hidden_arguments (each_one s es)

abbrev pub call_faults : Scope → List ℕ → List Expr → Option Meaning → List Fault
call_faults s name es (Some (m.Procedure formals)) = actuals_faults s formals es
call_faults s name es found = no_instance s name es

abbrev pub faults_by : Scope → Option Called → List Fault
faults_by s None = []
faults_by s (Some call) = call_faults s call.0 call.1 (visible s call.0)

-- what a line of these expressions reports; where it is no call it stands where no line of its kind may
unfoldable pub instance_faults : Scope → List Expr → List Fault
instance_faults s es = faults_by s (one_call es)

abbrev pub with_callee : Option Referent → Option (List TypedActual) → Option TypedInstance
with_callee None actuals = None
with_callee (Some r) None = None
with_callee (Some r) (Some actuals) = Some (record { callee = r; actuals = actuals })

abbrev pub call_tree : Scope → List ℕ → List Expr → Option Meaning → Option TypedInstance
call_tree s name es (Some (m.Procedure formals)) = with_callee (referent s name) (actuals_tree s formals es)
call_tree s name es found = None

abbrev pub tree_by : Scope → Option Called → Option TypedInstance
tree_by s None = None
tree_by s (Some call) = call_tree s call.0 call.1 (visible s call.0)

unfoldable pub instance_tree : Scope → List Expr → Option TypedInstance
instance_tree s es = tree_by s (one_call es)
