-- Texts that differ in skipped lines alone.
use Rattle.std.specs.Prelude.{ℕ, Bool, true, false, ◌&&◌, ◌||◌, List, [], ◌∷◌}
use Rattle.std.specs.Str.{bytes_eq}
use Rattle.occ_lines.specs.Lines.{is_skipped}

-- the lines are one, or both are skipped
abbrev pub is_alike : List ℕ → List ℕ → Bool
is_alike line other = bytes_eq line other || is_skipped line && is_skipped other

-- line by line
abbrev pub are_alike : List (List ℕ) → List (List ℕ) → Bool
are_alike [] [] = true
are_alike [] (other ∷ others) = false
are_alike (line ∷ lines) [] = false
are_alike (line ∷ lines) (other ∷ others) = is_alike line other && are_alike lines others
