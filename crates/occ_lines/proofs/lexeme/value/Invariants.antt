use Rattle.std.proofs.Common.{◌≡◌, ◌≤◌, take}
use Rattle.std.specs.Str.Parse.{digits_value}
use Rattle.occ_lines.specs.Lexeme.{greatest}
use Rattle.occ_lines.proofs.lexeme.value.Given as goal

abbrev pub invariant-loop-digit : goal.invariant-loop-digit
invariant-loop-digit l = record {
  so_far : l.value ≡ digits_value l.radix (take l.digit-index l.digits);
  held : l.value ≤ greatest;
}
