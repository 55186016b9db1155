use Rattle.std.proofs.Common.{◌≡◌, drop}
use Rattle.std.specs.List.{list_all}
use Rattle.occ_board.proofs.flags.are_all_flagged.Given as goal
use Rattle.occ_board.specs.inside.Flagged.{rest_flag}

abbrev pub invariant-loop-place : goal.invariant-loop-place
invariant-loop-place l = list_all (rest_flag l.files l.flags) (drop l.place l.indices) ≡ list_all (rest_flag l.files l.flags) l.indices
