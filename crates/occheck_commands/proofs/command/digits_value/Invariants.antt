use Rattle.std.proofs.Common.{◌≡◌, ◌<◌, ◌≤◌, drop}
use Rattle.occheck_commands.specs.Script.{number_on}
use Rattle.occheck_commands.proofs.command.digits_value.Given as goal

abbrev pub invariant-loop-digit : goal.invariant-loop-digit
invariant-loop-digit l = record {
  value : number_on l.value (drop l.digit-index l.word) ≡ number_on 0 l.word;
  zero_digits : l.digit-index ≤ 0 → l.value < 1;
  one_digit : l.digit-index ≤ 1 → l.value < 10;
  two_digits : l.digit-index ≤ 2 → l.value < 100;
  three_digits : l.digit-index ≤ 3 → l.value < 1000;
  four_digits : l.digit-index ≤ 4 → l.value < 10000;
  five_digits : l.digit-index ≤ 5 → l.value < 100000;
}
