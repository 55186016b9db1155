use Rattle.std.proofs.Common.{◌≡◌, ◌≤◌, ◌+◌, ◌-◌, length}
use Rattle.occheck_script.proofs.Known.{Known}
use Rattle.occheck_script.proofs.input.read_bytes.Given as goal

abbrev pub invariant-loop-piece : goal.invariant-loop-piece
invariant-loop-piece g l = record {
  known : Known (g.R.ByteIn.unread l.fn.reader) (g.R.ByteIn.unread l.reader) l.bytes.items;
  short : length l.bytes.items ≤ 67108865;
  taken : g.R.ByteIn.taken l.reader ≤ g.R.ByteIn.taken l.fn.reader + length l.bytes.items;
  fine : g.R.ByteIn.has_failed l.reader ≡ g.R.ByteIn.has_failed l.fn.reader;
  room : length l.piece ≡ 8192;
}

abbrev pub decreases-loop-piece : goal.decreases-loop-piece
decreases-loop-piece g l = 67108865 - length l.bytes.items
