-- RETYPES and RESHAPES: a value of one type, looked at as one of another.
use Rattle.std.specs.Prelude.{Bool, ◌&&◌, ◌||◌, Option, Some, None, List, [], ◌∷◌, if◌then◌else◌}
use Rattle.occ_base.specs.Reporting.{nameless}
use Rattle.occ_base.specs.declared.code.Code.TheVariants as code
use Rattle.occ_base.specs.declared.fault.Fault.{Fault}
use Rattle.occ_types.specs.Fits.{fits, is_data}
use Rattle.occ_types.specs.Size.{bytes_in, size_of}
use Rattle.occ_types.specs.Unknown.{holds_unknown}
use Rattle.occ_types.specs.declared.types.OccType.{OccType}
use Rattle.occ_typing_rules.specs.Dimensions.{dimensions, holds_plain_record, innermost, sized}
use Rattle.occ_typing_rules.specs.Sharing.{opens_in, rest, share_of, whole}
use Rattle.occ_typing_rules.specs.declared.sharing.Share.{Share}
use Rattle.occ_typing_rules.specs.declared.sharing.Share.TheVariants as share

-- the faults, and the type that the name has, if there are none
pub record Recast : Type 0 where
  pub faults : List Fault
  pub found : Option OccType

abbrev pub good : OccType → Recast
good of = record { faults = []; found = Some of }

abbrev pub unfit : Recast
unfit = record { faults = nameless code.T9 ∷ []; found = None }

abbrev pub by_share : OccType → Share → Recast
by_share to share.Even = good to
by_share to (share.Sized n) = good (sized n to)
by_share to share.Uneven = unfit

abbrev pub either : (OccType → Bool) → OccType → OccType → Bool
either test to from = test to || test from

-- ---- RETYPES: as many bytes, and no channel and no timer

abbrev pub bytes_shared : OccType → OccType → Share
bytes_shared to from = share_of (opens_in (dimensions to)) (rest (dimensions to) (bytes_in (size_of (innermost to)))) (bytes_in (size_of from))

abbrev pub retyped_data : OccType → OccType → Recast
retyped_data to from = if either holds_plain_record to from then unfit else by_share to (bytes_shared to from)

abbrev pub retyped_known : OccType → OccType → Recast
retyped_known to from = if is_data to && is_data from then retyped_data to from else unfit

-- of a type with a faulty field nothing is said
abbrev pub retyped : OccType → OccType → Recast
retyped to from = if either holds_unknown to from then good to else retyped_known to from

-- ---- RESHAPES: as many elements of one type after all dimensions

abbrev pub elements_shared : OccType → OccType → Share
elements_shared to from = share_of (opens_in (dimensions to)) (rest (dimensions to) (Some 1)) (whole (dimensions from) (Some 1))

abbrev pub reshaped_alike : OccType → OccType → Recast
reshaped_alike to from = if fits (innermost to) (innermost from) then by_share to (elements_shared to from) else unfit

abbrev pub reshaped_known : OccType → OccType → Recast
reshaped_known to from = if either holds_plain_record to from then unfit else reshaped_alike to from

abbrev pub reshaped : OccType → OccType → Recast
reshaped to from = if either holds_unknown to from then good to else reshaped_known to from
