use Rattle.std.proofs.Common.{◌≡◌, ◌≤◌, drop, Some}
use Rattle.occ_types.specs.Size.{capped, sum_of, total_of, field_sizes}
use Rattle.occ_types.proofs.size.+extent.Given as goal

abbrev pub invariant-fields_extent-loop-field : goal.invariant-fields_extent-loop-field
invariant-fields_extent-loop-field l = (capped (sum_of (Some l.total) (total_of (field_sizes (drop l.field-index l.fields)))) ≡ capped (total_of (field_sizes l.fields))) × (l.total ≤ 2147483648)
