use Rattle.std.proofs.Common.{◌≡◌, take}
use Rattle.occ_project_units.proofs.project.share_all.Given as goal

abbrev pub invariant-loop-file : goal.invariant-loop-file
invariant-loop-file l = l.shared.items ≡ take l.file-index l.files
