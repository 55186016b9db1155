use Rattle.std.proofs.Common.{◌≡◌, ◌+◌, drop}
use Rattle.occ_lines.specs.Directive.{is_quoted_byte}
use Rattle.std.specs.List.{prefix_len}
use Rattle.occ_lines.proofs.directive.quoted_len.Given as goal

abbrev pub invariant-loop-i : goal.invariant-loop-i
invariant-loop-i l = l.i + prefix_len is_quoted_byte (drop l.i l.text) ≡ prefix_len is_quoted_byte l.text
