use Rattle.std.proofs.Common.{◌≡◌, ◌≤◌, ◌+◌, ◌++◌, length, take, drop}
use Rattle.occheck_commands.specs.Ended.{IsEnded}
use Rattle.occheck_commands.specs.Lines.{cut_lines, text_of}
use Rattle.occheck_commands.proofs.first.split_lines.Given as goal

abbrev pub invariant-loop-passed : goal.invariant-loop-passed
invariant-loop-passed l = record {
  ended : IsEnded l.following;
  rest : drop l.passed (cut_lines l.bytes) ≡ cut_lines l.following;
  text : l.bytes ≡ text_of (take l.passed (cut_lines l.bytes)) ++ l.following;
  enough : l.passed ≤ length (cut_lines l.bytes);
  less : length l.following + l.passed ≤ length l.bytes;
}
