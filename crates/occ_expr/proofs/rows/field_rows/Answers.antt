use Rattle.std.proofs.Common.{◌∙◌, ◌++◌, ◌∷◌, [], List, refl, ap}
use Rattle.occ_typing_operands.specs.Settling.{Finding, int}
use Rattle.occ_types.specs.declared.types.Field.{Field}
use Rattle.occ_types.specs.declared.types.Packing.TheVariants as packing
use Rattle.occ_expr_operations.proofs.Fields.{field_of_record, int_field}
use Rattle.occ_expr.proofs.rows.field_rows.Goals as goal

abbrev two_fields : List Field
two_fields = (record { name = 120 ∷ []; of = int }) ∷ (record { name = 121 ∷ []; of = int }) ∷ []

pub returns-clause-field : goal.returns-clause-field
returns-clause-field c =
    field_of_record _ (114 ∷ []) (120 ∷ []) packing.Plain two_fields refl
    ∙ ap (λ (x : Finding). record { faults = x.faults ++ []; kind = x.kind }) (int_field two_fields (120 ∷ []) refl)

pub returns-clause-unknown : goal.returns-clause-unknown
returns-clause-unknown c = field_of_record _ (114 ∷ []) (122 ∷ []) packing.Plain two_fields refl
