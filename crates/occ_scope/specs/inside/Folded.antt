-- 64 bits of the number of a name, which differ for most names.
use Rattle.std.specs.Prelude.{ℕ, ◌+◌, ◌/◌, ◌%◌, ◌^◌, List, Option, Some, None}
use Rattle.occ_base.specs.Numbers.{number_of}

abbrev pub folded : Option ℕ → ℕ
folded None = 0
folded (Some n) = (n / 18446744073709551616 + n % 18446744073709551616) % 2 ^ 64

abbrev pub number_for : List ℕ → ℕ
number_for name = folded (number_of name)
