use Rattle.std.proofs.Common.{◌≡◌, drop}
use Rattle.occ_expr_operations.specs.Elements.{field_place_from}
use Rattle.occ_expr_operations.proofs.selecting.field_place.Given as goal

abbrev pub invariant-loop-field : goal.invariant-loop-field
invariant-loop-field l = (l.place ≡ l.field-index) × (field_place_from l.place l.name (drop l.field-index l.fields) ≡ field_place_from 0 l.name l.fields)
