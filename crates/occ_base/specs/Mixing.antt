-- One number of several, by which things are spread over lists.
use Rattle.std.specs.Prelude.{ℕ, ◌+◌, ◌*◌, ◌%◌, ◌^◌, List, [], ◌∷◌}

-- one number of two
abbrev pub mixed : ℕ → ℕ → ℕ
mixed seed more = (seed + more) % 2 ^ 64 * 11400714819323198485 % 2 ^ 64

-- that of bytes, going on from a seed
abbrev pub number_of_bytes : ℕ → List ℕ → ℕ
number_of_bytes seed [] = seed
number_of_bytes seed (b ∷ bs) = number_of_bytes (mixed seed b) bs
