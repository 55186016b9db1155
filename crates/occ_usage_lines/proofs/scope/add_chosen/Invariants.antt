use Rattle.std.proofs.Common.{◌≡◌, ◌||◌, ℕ, drop}
use Rattle.occ_usage_lines.specs.inside.Noting.{is_chosen, is_in}
use Rattle.occ_usage_lines.proofs.scope.add_chosen.Given as goal

abbrev pub invariant-loop-number : goal.invariant-loop-number
invariant-loop-number l =
    (n : ℕ) → (is_in l.numbers.items n || is_chosen l.bounds l.found (drop l.number-index l.noted) n) ≡ (is_in l.initial.numbers.items n || is_chosen l.bounds l.found l.noted n)
