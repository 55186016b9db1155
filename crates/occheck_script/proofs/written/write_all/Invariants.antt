use Rattle.std.proofs.Common.{◌≡◌, length}
use Rattle.occheck_script.specs.inside.Going.{Left}
use Rattle.occheck_script.proofs.written.write_all.Given as goal

abbrev pub invariant-loop-rest : goal.invariant-loop-rest
invariant-loop-rest g l = record {
  left : Left (g.W.ByteOut.written l.fn.writer) (g.W.ByteOut.written l.writer) l.rest l.bytes;
  fine : g.W.ByteOut.has_failed l.writer ≡ g.W.ByteOut.has_failed l.fn.writer;
}

abbrev pub decreases-loop-rest : goal.decreases-loop-rest
decreases-loop-rest g l = length l.rest
