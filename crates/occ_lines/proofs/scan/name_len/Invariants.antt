use Rattle.std.proofs.Common.{◌≡◌, ◌+◌, drop}
use Rattle.std.specs.List.{prefix_len}
use Rattle.occ_lines.specs.Lexeme.{is_name_byte}
use Rattle.occ_lines.proofs.scan.name_len.Given as goal

abbrev pub invariant-loop-i : goal.invariant-loop-i
invariant-loop-i l = l.i + prefix_len is_name_byte (drop l.i l.text) ≡ prefix_len is_name_byte l.text
