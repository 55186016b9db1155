use Rattle.std.proofs.Common.{◌≡◌, ◌++◌, ◌-◌, drop, length, take}
use Rattle.occ_board.specs.Machine.{unhanded}
use Rattle.occ_board.proofs.caching.unhand.Given as goal

abbrev pub invariant-loop-index : goal.invariant-loop-index
invariant-loop-index l = take l.index l.handed.items ++ unhanded (drop l.index l.handed.items) l.job ≡ unhanded l.fn.handed.items l.job

abbrev pub decreases-loop-index : goal.decreases-loop-index
decreases-loop-index l = length l.handed.items - l.index
