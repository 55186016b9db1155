use Rattle.std.proofs.Common.{◌≡◌, drop}
use Rattle.occ_board.specs.Done.{is_input_among}
use Rattle.occ_board.proofs.taking.is_handed.Given as goal
use Rattle.occ_check.specs.Checks.{input}

abbrev pub invariant-loop-job : goal.invariant-loop-job
invariant-loop-job l = is_input_among (drop l.job-index l.handed) (input l.graph l.unit) ≡ is_input_among l.handed (input l.graph l.unit)
