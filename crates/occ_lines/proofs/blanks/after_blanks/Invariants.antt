use Rattle.std.proofs.Common.{◌≡◌, drop}
use Rattle.occ_lines.specs.Lexeme.{after_blanks}
use Rattle.occ_lines.proofs.blanks.after_blanks.Given as goal

abbrev pub invariant-loop-i : goal.invariant-loop-i
invariant-loop-i l = after_blanks (drop l.i l.text) ≡ after_blanks l.text
