-- Types that agree, where both are written out.
use Rattle.std.proofs.Common.{◌≡◌, ◌∙◌, ℕ, List, false, ap}
use Rattle.occ_types.specs.Fits.{fits, is_same_primitive, primitive_fits}
use Rattle.occ_types.specs.declared.types.OccType.{OccType}
use Rattle.occ_types.specs.declared.types.OccType.TheVariants as t
use Rattle.occ_types.specs.declared.value.Primitive.{Primitive}
use Rattle.occ_types.proofs.Agreeing.{as_array_at_array, as_array_at_named, as_primitive_at_named, as_primitive_at_primitive, as_value_at_value, fits_of_primitive, is_unknown_at_primitive, is_unknown_at_unknown}
use Rattle.occ_protocol.proofs.Meeting.{meets_counted, meets_value}

pub fits_primitives : (p q : Primitive) → fits (t.Primitive p) (t.Primitive q) ≡ is_same_primitive p q
fits_primitives p q = fits_of_primitive p (t.Primitive q) ∙ ap (primitive_fits p) (as_primitive_at_primitive q)

pub fits_named : (p : Primitive) (name : List ℕ) (inner : OccType) → fits (t.Primitive p) (t.Named name inner) ≡ false
fits_named p name inner = fits_of_primitive p (t.Named name inner) ∙ ap (primitive_fits p) (as_primitive_at_named name inner)

pub ruleset written_rules = (fits_primitives, fits_named, meets_value, meets_counted, as_array_at_array, as_array_at_named, as_primitive_at_primitive, as_primitive_at_named, as_value_at_value, is_unknown_at_primitive, is_unknown_at_unknown)
