-- What a worker counts.
use Rattle.std.specs.Prelude.{ℕ, ◌+◌, ◌-◌, ◌^◌, min, Bool, true, false}
use Rattle.occ_board.specs.declared.verdict.Verdict.{Verdict}
use Rattle.occ_board.specs.declared.verdict.Verdict.TheVariants as verdict

abbrev pub is_accepted : Verdict → Bool
is_accepted verdict.Accepted = true
is_accepted verdict.Repeated = false
is_accepted (verdict.Stale name) = false
is_accepted (verdict.Foreign name) = false

abbrev pub is_stale : Verdict → Bool
is_stale (verdict.Stale name) = true
is_stale verdict.Accepted = false
is_stale verdict.Repeated = false
is_stale (verdict.Foreign name) = false

-- one more if it is counted, up to the greatest number of 64 bits
abbrev pub counted : Bool → ℕ → ℕ
counted true count = min (count + 1) (2 ^ 64 - 1)
counted false count = count
