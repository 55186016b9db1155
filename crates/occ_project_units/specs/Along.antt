-- Recursion along the units that a unit rests on: what a unit has is made from what these have.
use Rattle.std.specs.Prelude.{◌≡◌, ℕ, true, List, [], slice_get}
use Rattle.std.specs.Option.{option_map, unwrap_or}
use Rattle.occ_project_graph.specs.Along as graph
use Rattle.occ_project.specs.declared.reads.Read.{Read}
use Rattle.occ_project.specs.Entries.{is_among}
use Rattle.occ_project.specs.Reads.{index}
use Rattle.occ_project_units.specs.Indices.{graph_of, rest_units}

-- the name of the file at an index
abbrev pub name_at : List Read → ℕ → List ℕ
name_at files p = unwrap_or (option_map (λ file. file.name) (slice_get files p)) []

-- what is known of the file of a name by its place
abbrev pub by_index : {A : Type 0} → List Read → (ℕ → A) → A → List ℕ → A
by_index files f base name = unwrap_or (option_map f (index name files)) base

-- what the step gives at each index, where it may ask for what it gives of each unit that this one rests on
abbrev pub along_indices : {A : Type 0} → List Read → (List ℕ → (List ℕ → A) → A) → A → ℕ → A
along_indices files step base = graph.along (graph_of files) (λ p f. step (name_at files p) (by_index files f base)) base

-- the same of each unit
unfoldable pub along : {A : Type 0} → List Read → (List ℕ → (List ℕ → A) → A) → A → List ℕ → A
along files step base u = step u (by_index files (along_indices files step base) base)

-- the step asks for no other unit
abbrev pub IsLocal : {A : Type 0} → List Read → (List ℕ → (List ℕ → A) → A) → Type 0
IsLocal {A} files step = (u : List ℕ) (f h : List ℕ → A) → ((v : List ℕ) → is_among (rest_units files u) v ≡ true → f v ≡ h v) → step u f ≡ step u h
