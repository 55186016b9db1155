use Rattle.std.proofs.Common.{◌≡◌, ◌++◌, drop}
use Rattle.occ_typing_lines.specs.Using.{interfaces_of}
use Rattle.occ_typing_lines.proofs.using.each_interface.Given as goal

abbrev pub invariant-loop-unit : goal.invariant-loop-unit
invariant-loop-unit l = l.found ++ interfaces_of (drop l.unit-index l.units) l.imports ≡ interfaces_of l.units l.imports
