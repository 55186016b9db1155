use Rattle.std.proofs.Common.{◌≡◌, ◌+◌, ◌≤◌, false, length}
use Rattle.occheck_commands.specs.Left.{AreLast}
use Rattle.occheck_script.proofs.Running.{IsHolding}
use Rattle.occheck_script.proofs.answering.answer_lines.Given as goal

abbrev pub invariant-loop : goal.invariant-loop
invariant-loop g l = record {
  last : AreLast l.lines l.rest;
  room : l.counter + length l.rest.bytes.now ≤ length l.lines.bytes.now;
  fine : g.W.ByteOut.has_failed l.writer ≡ false;
  holding : IsHolding l.lines.line l.lines.bytes.now l.rest.line l.rest.bytes.now l.fn.desk l.desk (g.W.ByteOut.written l.fn.writer) (g.W.ByteOut.written l.writer) l.held.items;
}
