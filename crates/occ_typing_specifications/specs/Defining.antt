-- `DATA TYPE n IS t:`.
use Rattle.std.specs.Prelude.{ℕ, Option, Some, None, List, [], ◌∷◌, ◌++◌}
use Rattle.occ_base.specs.declared.fault.Fault.{Fault}
use Rattle.occ_types.specs.declared.types.OccType.{OccType}
use Rattle.occ_types.specs.declared.types.OccType.TheVariants as t
use Rattle.occ_scope.specs.declared.meaning.Meaning.TheVariants as m
use Rattle.occ_scope.specs.declared.scope.Scope.{Scope}
use Rattle.occ_forms_expressions.specs.declared.tree.TypeForm.{TypeForm}
use Rattle.occ_expr_operations.specs.Views.{type_form_view}
use Rattle.occ_expr_operations.specs.Written.{Written, faulty, limited}
use Rattle.occ_scope.specs.declared.meaning.Meaning.{Meaning}
use Rattle.occ_expr_operations.specs.declared.written.Opening.TheVariants as opening
use Rattle.occ_typing_rules.specs.Resulting.{of_data}
use Rattle.occ_typing_specifications.specs.Entering.{Declared, unless_reported}

-- the faults of a head, and what its name stands for
pub record Defined : Type 0 where
  pub faults : List Fault
  pub meaning : Meaning

-- a type of data, if it is known
unfoldable pub data_of : Option OccType → Written
data_of None = faulty
data_of (Some of) = of_data of

-- a type as a line writes it where it has to be one of data
unfoldable pub data_form_type : Scope → TypeForm → Written
data_form_type s form =
    let x = type_form_view form opening.Refused s in
    let y = data_of x.found in
    record { faults = x.faults ++ y.faults; found = y.found }

-- a type with this name, which counts for how large it is
unfoldable pub with_name : List ℕ → Option OccType → Written
with_name name None = faulty
with_name name (Some of) = limited (Some (t.Named name of))

unfoldable pub defined : Scope → List ℕ → TypeForm → Written
defined s name form =
    let x = data_form_type s form in
    let y = with_name name x.found in
    record { faults = x.faults ++ y.faults; found = y.found }

unfoldable pub data_type : Scope → List ℕ → TypeForm → Declared
data_type s name form =
    let x = defined s name form in
    record { faults = x.faults; adds = (record { name = name; meaning = m.Type (unless_reported x.faults x.found) }) ∷ [] }
