use Rattle.std.proofs.Common.{◌≡◌, ◌-◌, ◌≤◌, length}
use Rattle.occheck_commands.specs.Lines.{feeds}
use Rattle.occheck_commands.proofs.lines.lines_lacking.Given as goal

abbrev pub invariant-loop-lacking : goal.invariant-loop-lacking
invariant-loop-lacking l = record { few : length l.left ≤ length l.bytes; count : l.lacking - feeds l.left ≡ l.lines - feeds l.bytes }

abbrev pub decreases-loop-lacking : goal.decreases-loop-lacking
decreases-loop-lacking l = length l.left
