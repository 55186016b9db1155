use Rattle.std.proofs.Common.{◌≡◌, ℕ, List, take}
use Rattle.std.specs.BTreeMap.{get}
use Rattle.occ_project.specs.Reads.{name_cmp, index}
use Rattle.occ_project.proofs.files.indices.Given as goal

abbrev pub invariant-loop-i : goal.invariant-loop-i
invariant-loop-i l = (name : List ℕ) → get name_cmp l.indices name ≡ index name (take l.i l.reads)
