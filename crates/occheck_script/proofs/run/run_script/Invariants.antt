use Rattle.std.proofs.Common.{◌≡◌, ◌+◌, ◌<◌, ◌≤◌, false, length}
use Rattle.occheck_script.specs.inside.Begun.{IsBegun}
use Rattle.occheck_script.proofs.Talking.{IsTalk}
use Rattle.occheck_script.proofs.run.run_script.Given as goal

abbrev pub invariant-loop-room : goal.invariant-loop-room
invariant-loop-room g l = record {
  begun : IsBegun l.begun;
  lacks : 0 < l.begun.lacks;
  piece : length l.piece ≡ 131072;
  line : l.begun.line + length l.begun.bytes.items + l.room ≤ 67108865;
  reader : g.R.ByteIn.has_failed l.reader ≡ false;
  writer : g.W.ByteOut.has_failed l.writer ≡ false;
  talk : IsTalk (g.R.ByteIn.unread l.fn.reader) (g.R.ByteIn.unread l.reader) (g.R.ByteIn.taken l.fn.reader) (g.R.ByteIn.taken l.reader) l.room l.begun.line l.begun.bytes.items l.desk (g.W.ByteOut.written l.fn.writer) (g.W.ByteOut.written l.writer);
}

abbrev pub decreases-loop-room : goal.decreases-loop-room
decreases-loop-room g l = l.room
