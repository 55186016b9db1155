use Rattle.std.proofs.Common.{length}
use Rattle.occ_lines.proofs.Spelled.{Handed}
use Rattle.occ_lines.proofs.reader.hand_on.Given as goal

abbrev pub invariant-loop-sink : goal.invariant-loop-sink
invariant-loop-sink g l = Handed (g.S.Sink.holds l.initial.sink) (g.S.Sink.holds l.sink) l.initial.found l.found

abbrev pub decreases-loop-sink : goal.decreases-loop-sink
decreases-loop-sink g l = length l.found
