use Rattle.std.proofs.Common.{◌≡◌, drop}
use Rattle.occ_typing_lines.specs.Using.{interface_of}
use Rattle.occ_typing_lines.proofs.imports.first_of.Given as goal

abbrev pub invariant-loop-import : goal.invariant-loop-import
invariant-loop-import l = interface_of l.unit (drop l.import-index l.imports) ≡ interface_of l.unit l.imports
