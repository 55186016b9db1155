-- Which URI names the file at a path.
use Rattle.std.specs.Prelude.{◌≡◌, ℕ, Bool, true, false, ◌==◌, List, [], ◌∷◌}
use Rattle.occ_editor_edits.specs.Messages.{path_of_uri}

-- the path goes on from the root
abbrev pub is_rooted : List ℕ → Bool
is_rooted [] = false
is_rooted (b ∷ bs) = b == 47

-- a path from the root is read of it again; any other path is it
abbrev pub IsUriOf : List ℕ → List ℕ → Type 0
IsUriOf path uri = (is_rooted path ≡ true → path_of_uri uri ≡ path) × (is_rooted path ≡ false → uri ≡ path)
