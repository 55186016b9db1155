use Rattle.std.proofs.Common.{◌≡◌, ◌≤◌, ◌*◌, drop}
use Rattle.occ_lines.specs.Lines.{column_from}
use Rattle.occ_lines.specs.Lexeme.{after_blanks}
use Rattle.occ_lines.proofs.blanks.indented.Given as goal

abbrev pub invariant-loop-i : goal.invariant-loop-i
invariant-loop-i l = record {
  same : column_from l.column (drop l.i l.line) ≡ column_from 0 l.line;
  text : after_blanks (drop l.i l.line) ≡ after_blanks l.line;
  small : l.column ≤ 8 * l.i;
}
