use Rattle.std.proofs.Common.{◌≡◌, ◌+◌, ◌≤◌, length}
use Rattle.std.specs.Prelude.{vec_capacity, vec_len}
use Rattle.occ_project_units.specs.Project.{IsProject, put_back}
use Rattle.occ_project_units.proofs.project.put_all_within.Given as goal

abbrev pub invariant-loop-file : goal.invariant-loop-file
invariant-loop-file l =
    (put_back l.files.items l.found ≡ put_back l.fn.files.items l.fn.found)
    × (IsProject l.files.items × (vec_len l.files + length l.found ≤ vec_capacity l.files))

abbrev pub decreases-loop-file : goal.decreases-loop-file
decreases-loop-file l = length l.found
