use Rattle.std.proofs.Common.{◌≡◌, drop}
use Rattle.occ_types.specs.Fits.{fields_alike as fields_same_but_names}
use Rattle.occ_types.proofs.fit.+alike.Given as goal

abbrev pub invariant-fields_alike-loop-field : goal.invariant-fields_alike-loop-field
invariant-fields_alike-loop-field l = fields_same_but_names (drop l.field-index l.a) l.others ≡ fields_same_but_names l.a l.b
