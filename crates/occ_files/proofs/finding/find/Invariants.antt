use Rattle.std.proofs.Common.{ℕ, List, Option, drop, map}
use Rattle.std.specs.String.{string_bytes}
use Rattle.occ_files.specs.Paths.{IsFirst}
use Rattle.occ_files.proofs.finding.find.Given as goal

abbrev pub invariant-loop-folder : goal.invariant-loop-folder
invariant-loop-folder g l = (found : Option (List ℕ × List ℕ)) → IsFirst (g.D.Disk.known l.disk) (map string_bytes (drop l.folder-index l.folders)) l.name found → IsFirst (g.D.Disk.known l.disk) (map string_bytes l.folders) l.name found
