use Rattle.std.proofs.Common.{◌≡◌, take}
use Rattle.occ_project_units.proofs.lookers.names_of.Given as goal

abbrev pub invariant-loop-file : goal.invariant-loop-file
invariant-loop-file l = l.names ≡ take l.file-index l.files
