-- The types of the results of a FUNCTION, each a type of data in which no `[]` stands.
use Rattle.std.specs.Prelude.{Option, List, [], ◌∷◌, ◌++◌}
use Rattle.occ_types.specs.declared.types.OccType.{OccType}
use Rattle.occ_base.specs.declared.fault.Fault.{Fault}
use Rattle.occ_scope.specs.declared.scope.Scope.{Scope}
use Rattle.occ_forms_expressions.specs.declared.tree.TypeForm.{TypeForm}
use Rattle.occ_typing_specifications.specs.Defining.{data_form_type}

-- the faults of types, and the types, those that are known
pub record Results : Type 0 where
  pub faults : List Fault
  pub types : List (Option OccType)

abbrev pub results : Scope → List TypeForm → Results
results s [] = record { faults = []; types = [] }
results s (form ∷ forms) =
    let x = data_form_type s form in
    let xs = results s forms in
    record { faults = x.faults ++ xs.faults; types = x.found ∷ xs.types }
