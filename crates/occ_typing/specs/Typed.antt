-- The typed tree of a unit, and when there is none.
use Rattle.std.specs.Prelude.{◌≡◌, List, []}
use Rattle.occ_tree.specs.Forest.{Forest}
use Rattle.occ_typing.specs.TypedLines.{typed_unit}
use Rattle.occ_typing.specs.Units.{type_faults}
use Rattle.occ_typing.specs.declared.unit.TypeFault.{TypeFault}
use Rattle.occ_typing.specs.declared.unit.TypeFault.TheVariants as fault
use Rattle.occ_typing.specs.declared.unit.Typed.{Typed}
use Rattle.occ_typing_lines.specs.declared.using.Import.{Import}

-- the unit has no diagnostics of names and types, and these are its lines
pub record IsTypedTree (is : List Import) (f : Forest) (t : Typed) : Type 0 where
  pub clean : type_faults is f ≡ []
  pub lines : t.lines ≡ typed_unit is f

abbrev pub Refuses : List Import → Forest → TypeFault → Type 0
Refuses is f (fault.Faults diags) = (diags ≡ type_faults is f) × (diags ≡ [] → ⊥)
Refuses is f fault.Memory = Unit {0}
