-- The number of a short name. No two names have one.
use Rattle.std.specs.Prelude.{ℕ, nat_le, nat_lt, ◌&&◌, Bool, cond, List, [], ◌∷◌, ◌++◌, drop, length, replicate, Option, Some, None}
use Rattle.std.specs.Int.{from_be_bytes, w128}
use Rattle.std.specs.List.{list_all}

-- 16 bytes: those of a name of at most 15, zeros, and last how many are of the name
abbrev pub digits : List ℕ → List ℕ
digits name = name ++ drop (length name) (replicate 15 0 ++ length name ∷ [])

abbrev pub is_byte : ℕ → Bool
is_byte n = nat_lt n 256

-- the name has at most 15 bytes
abbrev pub is_short : List ℕ → Bool
is_short name = nat_le (length name) 15 && list_all is_byte name

-- the number of which these are the digits, of a short name
abbrev pub number_of : List ℕ → Option ℕ
number_of name = cond (is_short name) (Some (from_be_bytes w128 (digits name))) None
