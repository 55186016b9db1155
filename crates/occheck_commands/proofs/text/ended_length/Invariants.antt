use Rattle.std.proofs.Common.{◌≡◌, ◌≤◌, length, drop}
use Rattle.occheck_commands.specs.Lines.{feeds}
use Rattle.occheck_commands.proofs.text.ended_length.Given as goal

abbrev pub invariant-loop-length : goal.invariant-loop-length
invariant-loop-length l = record { within : l.length ≤ length l.bytes; none : feeds (drop l.length l.bytes) ≡ 0 }

abbrev pub decreases-loop-length : goal.decreases-loop-length
decreases-loop-length l = l.length
