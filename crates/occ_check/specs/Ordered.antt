-- Interfaces as jobs hold them. Of each export the uses stand in the order of their codes, each once: so two interfaces that have the
-- same exports with the same sets of uses are one.
use Rattle.std.specs.Prelude.{map}
use Rattle.occ_check.specs.FormalUses.{in_order}
use Rattle.occ_check.specs.declared.used.Used.{Used}
use Rattle.occ_check.specs.declared.used.Used.TheVariants as how
use Rattle.occ_check.specs.declared.used.UsedUnit.{UsedUnit}
use Rattle.occ_types.specs.declared.interface.Export.{Export}
use Rattle.occ_types.specs.declared.interface.Interface.{Interface}

abbrev pub ordered_export : Export → Export
ordered_export e = record e { uses = in_order e.uses }

abbrev pub ordered_interface : Interface → Interface
ordered_interface i = record { exports = map ordered_export i.exports }

abbrev pub ordered_used : Used → Used
ordered_used how.Absent = how.Absent
ordered_used how.Circular = how.Circular
ordered_used how.Faulty = how.Faulty
ordered_used (how.Clean interface) = how.Clean (ordered_interface interface)

-- a used unit, whose interface stands so
abbrev pub ordered : UsedUnit → UsedUnit
ordered u = record { unit = u.unit; used = ordered_used u.used }
