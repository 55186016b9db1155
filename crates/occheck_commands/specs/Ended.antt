-- Bytes whose last line is ended like the others.
use Rattle.std.specs.Prelude.{ℕ, ◌≡◌, List, [], ◌∷◌}

-- the last byte, if there is one, is LF
abbrev pub IsEnded : List ℕ → Type 0
IsEnded [] = Unit {0}
IsEnded (b ∷ []) = b ≡ 10
IsEnded (b ∷ c ∷ bytes) = IsEnded (c ∷ bytes)

-- there is a last byte, and it is not LF
abbrev pub IsOpen : List ℕ → Type 0
IsOpen [] = ⊥
IsOpen (b ∷ []) = b ≡ 10 → ⊥
IsOpen (b ∷ c ∷ bytes) = IsOpen (c ∷ bytes)

-- the bytes do not begin with LF
abbrev pub IsNoFeed : List ℕ → Type 0
IsNoFeed [] = Unit {0}
IsNoFeed (b ∷ bytes) = b ≡ 10 → ⊥
