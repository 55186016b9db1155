use Rattle.std.proofs.Common.{◌≡◌, ◌+◌, ◌++◌, ℕ, Bool, List, length}
use Rattle.occheck_commands.specs.Ended.{IsEnded}
use Rattle.occheck_commands.specs.Left.{ending}
use Rattle.occheck_commands.proofs.first.skip_blank.Given as goal

abbrev pub invariant-loop-following : goal.invariant-loop-following
invariant-loop-following l = record {
  ended : IsEnded l.lines.bytes.now → IsEnded l.bytes;
  line : l.line + length l.bytes ≡ l.lines.line + length l.lines.bytes.now;
  last : (front : List ℕ) × (l.lines.bytes.now ≡ front ++ l.bytes);
  same : (over : Bool) (more : List ℕ) → ending over l.line (l.bytes ++ more) ≡ ending over l.lines.line (l.lines.bytes.now ++ more);
}

abbrev pub decreases-loop-following : goal.decreases-loop-following
decreases-loop-following l = length l.bytes
