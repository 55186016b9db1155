use Rattle.std.proofs.Common.{◌≡◌, drop}
use Rattle.std.specs.List.{find}
use Rattle.occ_board.specs.Verdicts.{is_off}
use Rattle.occ_board.proofs.judging.judge_used.Given as goal

abbrev pub invariant-loop-number : goal.invariant-loop-number
invariant-loop-number l = find (is_off l.graph l.cached l.user) (drop l.number l.used) ≡ find (is_off l.graph l.cached l.user) l.used
