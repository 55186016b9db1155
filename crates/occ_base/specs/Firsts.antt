-- Names of files, each once.
use Rattle.std.specs.Prelude.{ℕ, List, [], ◌∷◌, not}
use Rattle.std.specs.List.{filter}
use Rattle.std.specs.Str.{bytes_eq}

-- each name at its first index
abbrev pub first_indices : List (List ℕ) → List (List ℕ)
first_indices [] = []
first_indices (name ∷ names) = name ∷ filter (λ other. not (bytes_eq name other)) (first_indices names)
