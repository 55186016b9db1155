use Rattle.std.proofs.Common.{◌≡◌, drop}
use Rattle.occ_project.specs.Reads.{member}
use Rattle.occ_project.proofs.files.first_of.Given as goal

abbrev pub invariant-loop-read : goal.invariant-loop-read
invariant-loop-read l = member (drop l.read-index l.reads) l.name ≡ member l.reads l.name
