use Rattle.std.proofs.Common.{◌≡◌, ◌+◌, drop}
use Rattle.std.specs.Char.{is_ascii_hexdigit}
use Rattle.std.specs.List.{prefix_len}
use Rattle.occ_lines.proofs.scan.hexadecimal_len.Given as goal

abbrev pub invariant-loop-i : goal.invariant-loop-i
invariant-loop-i l = l.i + prefix_len is_ascii_hexdigit (drop l.i l.text) ≡ prefix_len is_ascii_hexdigit l.text
