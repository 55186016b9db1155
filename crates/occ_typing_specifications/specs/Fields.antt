-- A line `t n, ..:` of the fields of a record.
use Rattle.std.specs.Prelude.{ℕ, Option, Some, None, List, [], ◌∷◌, ◌++◌}
use Rattle.occ_types.specs.declared.types.Field.{Field}
use Rattle.occ_types.specs.declared.types.OccType.{OccType}
use Rattle.occ_types.specs.declared.types.OccType.TheVariants as t
use Rattle.occ_base.specs.declared.fault.Fault.{Fault}
use Rattle.occ_scope.specs.declared.scope.Scope.{Scope}
use Rattle.occ_forms_expressions.specs.declared.tree.TypeForm.{TypeForm}
use Rattle.occ_expr_operations.specs.Written.{Written}
use Rattle.occ_typing_rules.specs.Listing.{repetitions}
use Rattle.occ_typing_specifications.specs.Defining.{data_form_type}
use Rattle.occ_typing_specifications.specs.Entering.{unless_reported}

-- the faults of a line, and its fields
pub record Fields : Type 0 where
  pub faults : List Fault
  pub fields : List Field

-- the type, which is one of data, and each name that stood before in the record, after lines with these names
unfoldable pub line_type : Scope → List (List ℕ) → TypeForm → List (List ℕ) → Written
line_type s before form names =
    let x = data_form_type s form in
    record { faults = x.faults ++ repetitions before names; found = x.found }

-- a field with a fault is there, and nothing is known of it
abbrev pub field_type : Option OccType → OccType
field_type None = t.Unknown
field_type (Some of) = of

abbrev pub each_of : OccType → List (List ℕ) → List Field
each_of of [] = []
each_of of (name ∷ names) = (record { name = name; of = of }) ∷ each_of of names

-- all fields of a line that reports something are faulty
unfoldable pub fields : Scope → List (List ℕ) → TypeForm → List (List ℕ) → Fields
fields s before form names =
    let x = line_type s before form names in
    record { faults = x.faults; fields = each_of (field_type (unless_reported x.faults x.found)) names }
