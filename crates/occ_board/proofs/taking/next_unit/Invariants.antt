use Rattle.std.proofs.Common.{◌≡◌, drop}
use Rattle.std.specs.List.{find}
use Rattle.occ_board.specs.inside.Ready.{NoneIsNext, is_next}
use Rattle.occ_board.proofs.taking.next_unit.Given as goal

abbrev pub invariant-loop-index : goal.invariant-loop-index
invariant-loop-index l =
    (find (is_next l.graph l.cached l.handed) (drop l.index l.graph) ≡ find (is_next l.graph l.cached l.handed) l.graph)
    × NoneIsNext l.graph l.cached l.handed l.index
