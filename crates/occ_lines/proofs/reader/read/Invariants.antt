use Rattle.std.proofs.Common.{◌≡◌, ◌+◌, [], length}
use Rattle.occ_lines.specs.Lines.{line_count}
use Rattle.occ_lines.proofs.Sizes.{AreShort}
use Rattle.occ_lines.proofs.Spelled.{Sent}
use Rattle.occ_lines.proofs.reader.read.Given as goal

abbrev pub invariant-loop-line : goal.invariant-loop-line
invariant-loop-line g l = record {
  sent : Sent (g.S.Sink.holds l.sink) l.fn.text l.statement l.number l.line-iterator;
  none : l.found ≡ [];
  counted : l.number + length l.line-iterator ≡ line_count l.fn.text;
  short : AreShort l.line-iterator;
}
