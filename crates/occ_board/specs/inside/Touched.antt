-- Marks of files, among them at least those that an edit may concern.
use Rattle.std.specs.Prelude.{◌≡◌, ◌||◌, ◌⊎◌, ℕ, Bool, true, false, List, [], ◌∷◌, get_or, replicate, slice_set}
use Rattle.occ_project_graph.specs.Graph.{Graph, has_edge, is_among}

-- what uses a marked one is marked, if not only where that has its flag
abbrev pub IsClosed : Graph → List Bool → Bool → List Bool → Type 0
IsClosed g flags all marks = (p q : ℕ) → has_edge g p q ≡ true → (all || get_or flags q false) ≡ true → get_or marks q false ≡ true → get_or marks p false ≡ true

-- the indices are exactly the marked ones, in any order
abbrev pub AreMarked : List Bool → List ℕ → Type 0
AreMarked marks indices = (p : ℕ) → is_among indices p ≡ get_or marks p false

-- these, and those at the indices
abbrev pub marked_too : List Bool → List ℕ → List Bool
marked_too marks [] = marks
marked_too marks (p ∷ ps) = marked_too (slice_set marks p true) ps

-- of so many files those at the indices are marked
abbrev pub marked : ℕ → List ℕ → List Bool
marked count indices = marked_too (replicate count false) indices

-- they are the marks, or none are made yet
abbrev pub AreMarks : List Bool → List Bool → Type 0
AreMarks made marks = (made ≡ []) ⊎ (made ≡ marks)
