use Rattle.std.proofs.Common.{◌≡◌, ◌++◌, drop}
use Rattle.std.specs.List.{flat_map}
use Rattle.occ_check.specs.Faults.{use_faults}
use Rattle.occ_check.proofs.faults.add_use_faults.Given as goal

abbrev pub invariant-loop-unit : goal.invariant-loop-unit
invariant-loop-unit l = l.found ++ flat_map (use_faults l.used l.line) (drop l.unit-index l.units) ≡ l.fn.found ++ flat_map (use_faults l.used l.line) l.units
