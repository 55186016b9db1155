-- The place of the first of some bytes, where it is looked for.
use Rattle.std.proofs.Common.{◌≡◌, ◌≤◌, ℕ, List, length, Bool, true, false, not, cond, nat_lt, Some, None, unwrap_or, refl, arith}
use Rattle.std.specs.List.{position, position_or_len}
use Rattle.std.proofs.lemmas.Bool.{ltb-false}
use Rattle.std.proofs.lemmas.List.Sums.{prefix_len-le-length}

unwrapped_by : (n all : ℕ) (is : Bool) → nat_lt n all ≡ is → n ≤ all → unwrap_or (cond is (Some n) None) all ≡ n
unwrapped_by n all true e h = refl
unwrapped_by n all false e h = let k : all ≤ n = ltb-false n all e in omega arith

pub unwrapped : (p : ℕ → Bool) (bytes : List ℕ) → unwrap_or (position p bytes) (length bytes) ≡ position_or_len p bytes
unwrapped p bytes = unwrapped_by (position_or_len p bytes) (length bytes) (nat_lt (position_or_len p bytes) (length bytes)) refl (prefix_len-le-length (λ x. not (p x)) bytes)

pub before_within : (p : ℕ → Bool) (bytes : List ℕ) → position_or_len p bytes ≤ length bytes
before_within p bytes = prefix_len-le-length (λ x. not (p x)) bytes
