use Rattle.std.proofs.Common.{◌≡◌, ◌++◌, drop}
use Rattle.occ_typing_operands.specs.Operators.{all_faults, kinds}
use Rattle.occ_typing_tables.specs.Decorating.{field_values}
use Rattle.occ_typing_tables.specs.Terms.{judged_all}
use Rattle.occ_typing_tables.proofs.decorate.field_values.Given as goal

abbrev pub invariant-loop-field : goal.invariant-loop-field
invariant-loop-field l =
    (l.kinds ++ kinds (field_values (drop l.field-index l.fields) (judged_all l.items)) ≡ kinds (field_values l.fields (judged_all l.initial.items)))
    × (l.faults ++ all_faults (field_values (drop l.field-index l.fields) (judged_all l.items)) ≡ l.initial.faults ++ all_faults (field_values l.fields (judged_all l.initial.items)))
