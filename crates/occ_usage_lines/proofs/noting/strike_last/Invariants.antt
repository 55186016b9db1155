use Rattle.std.proofs.Common.{◌≡◌, ◌<◌, ℕ, true, length}
use Rattle.occ_usage_lines.specs.inside.Noting.{is_in}
use Rattle.occ_usage_lines.proofs.noting.strike_last.Given as goal

abbrev pub invariant-loop-numbers : goal.invariant-loop-numbers
invariant-loop-numbers l = (n : ℕ) → n < l.depth → is_in l.initial.numbers n ≡ true → is_in l.numbers n ≡ true

abbrev pub decreases-loop-numbers : goal.decreases-loop-numbers
decreases-loop-numbers l = length l.numbers
