use Rattle.std.proofs.Common.{◌≡◌, drop}
use Rattle.occ_files_check.specs.Told.{path_of}
use Rattle.occ_files_check.proofs.telling.message.Given as goal

abbrev pub invariant-loop-text : goal.invariant-loop-text
invariant-loop-text l = path_of (drop l.text-index l.texts) l.diag.file ≡ path_of l.texts l.diag.file
