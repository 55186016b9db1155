use Rattle.std.proofs.Common.{◌≡◌, ◌++◌, ◌<◌, ℕ, slice_get}
use Rattle.occ_usage_parts.proofs.chain.Chain.has_same_numbers.Given as goal

abbrev pub invariant-loop-index : goal.invariant-loop-index
invariant-loop-index l = (k : ℕ) → k < l.index → slice_get (l.shared ++ l.own) k ≡ slice_get (l.others_shared ++ l.others_own) k
