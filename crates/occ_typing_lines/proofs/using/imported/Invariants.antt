use Rattle.std.proofs.Common.{◌≡◌, ◌++◌, drop}
use Rattle.occ_typing_lines.specs.Using.{imported as spec_imported}
use Rattle.occ_typing_lines.proofs.using.imported.Given as goal

abbrev pub invariant-loop-interface : goal.invariant-loop-interface
invariant-loop-interface l = l.entries ++ spec_imported (drop l.interface-index l.interfaces) ≡ spec_imported l.interfaces
