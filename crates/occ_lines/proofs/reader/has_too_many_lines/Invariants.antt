use Rattle.std.proofs.Common.{◌≡◌, ◌≤◌, ◌+◌, length}
use Rattle.occ_lines.specs.Lines.{line_count}
use Rattle.occ_lines.proofs.reader.has_too_many_lines.Given as goal

abbrev pub invariant-loop-line : goal.invariant-loop-line
invariant-loop-line l = record {
  most : l.count ≤ 16384;
  counted : l.count + length l._line-iterator ≡ line_count l.fn.text;
}
