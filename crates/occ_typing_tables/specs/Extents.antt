-- Arrays as the types of operands, and when a type is too large.
use Rattle.std.specs.Prelude.{ℕ, Option, None, [], if◌then◌else◌}
use Rattle.occ_base.specs.declared.code.Code.TheVariants as code
pub use Rattle.occ_types.specs.Large.{is_oversized, is_too_large, is_too_wide, oversized_step}
use Rattle.occ_types.specs.declared.types.OccType.{OccType}
use Rattle.occ_types.specs.declared.types.OccType.TheVariants as t
use Rattle.occ_typing_operands.specs.Settling.{Finding, fault_of, known}

-- an array of so many components of a data type
abbrev pub arrayed : Option ℕ → OccType → Finding
arrayed n of = if is_too_large (t.Array n of) then fault_of code.T9 else record { faults = []; kind = known (t.Array n of) None }
