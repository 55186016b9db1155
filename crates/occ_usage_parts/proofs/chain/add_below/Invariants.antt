use Rattle.std.proofs.Common.{◌≡◌, ◌++◌, drop, nat_lt, ℕ}
use Rattle.std.specs.List.{filter}
use Rattle.occ_usage_parts.proofs.chain.add_below.Given as goal

abbrev pub invariant-loop-number : goal.invariant-loop-number
invariant-loop-number l =
    l.found ++ filter (λ (k : ℕ). nat_lt k l.bound) (drop l.number-index l.numbers) ≡ l.initial.found ++ filter (λ (k : ℕ). nat_lt k l.bound) l.numbers
