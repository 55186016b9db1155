-- Nodes have numbers that stay, and indices that rise where others come before them.
use Rattle.std.specs.Prelude.{◌≡◌, ◌<◌, ◌≤◌, ◌+◌, ◌-◌, ◌==◌, ◌++◌, ◌⊎◌, ℕ, true, List, [], ◌∷◌, drop, length, get_or, map, replicate, take, None, Option, Some}
use Rattle.std.specs.List.{filter}
use Rattle.occ_project_graph.specs.Graph.{Graph, has_edge}

-- the index of the node of a number
abbrev pub index_at : List ℕ → ℕ → ℕ
index_at indices n = get_or indices n 0

abbrev pub indexed : List ℕ → List ℕ → List ℕ
indexed indices ns = map (index_at indices) ns

-- the numbers are the indices themselves, if there are none for them
abbrev pub indices_of : Option (List ℕ) → List ℕ → List ℕ
indices_of None ns = ns
indices_of (Some indices) ns = indexed indices ns

-- rows by numbers as rows by indices
abbrev pub graph_by : List ℕ → List ℕ → Graph → Graph
graph_by numbers indices rows = map (λ n. indexed indices (get_or rows n [])) numbers

-- the numbers in the row of the node of an index
abbrev pub row_by : List ℕ → Graph → ℕ → List ℕ
row_by numbers rows p = get_or (map (λ n. get_or rows n []) numbers) p []

-- each node has one number and one index
pub record IsNumbered (numbers indices : List ℕ) : Type 0 where
  pub len : length indices ≡ length numbers
  pub index_within : (n : ℕ) → n < length numbers → index_at indices n < length numbers
  pub number_within : (p : ℕ) → p < length numbers → get_or numbers p 0 < length numbers
  pub there : (p : ℕ) → p < length numbers → index_at indices (get_or numbers p 0) ≡ p
  pub back : (n : ℕ) → n < length numbers → get_or numbers (index_at indices n) 0 ≡ n

-- those from an index up to another have risen, and the others have not
pub record IsRaising (numbers old now : List ℕ) (at place : ℕ) : Type 0 where
  pub from : at ≤ place
  pub len : length now ≡ length old
  pub risen : (n : ℕ) → n < length numbers → at ≤ index_at old n → index_at old n < place → index_at now n ≡ index_at old n + 1
  pub same : (n : ℕ) → n < length numbers → (index_at old n < at) ⊎ (place ≤ index_at old n) → index_at now n ≡ index_at old n

-- rows for so many nodes, of which they hold none but these
pub record IsOver (count : ℕ) (rows : Graph) : Type 0 where
  pub len : length rows ≡ count
  pub within : (u v : ℕ) → has_edge rows u v ≡ true → v < count

-- the last of so many nodes in front has an index before this one, and those behind it have not
pub record IsFrontBefore (indices : List ℕ) (at : ℕ) (nodes : List ℕ) (front : ℕ) : Type 0 where
  pub within : front ≤ length nodes
  pub behind : (i : ℕ) → front ≤ i → i < length nodes → at ≤ index_at indices (get_or nodes i 0)
  pub last : 0 < front → index_at indices (get_or nodes (front - 1) 0) < at

-- a node of this number is put behind those in front, so often
pub record IsSourceRow (indices : List ℕ) (at number times : ℕ) (nodes row : List ℕ) : Type 0 where
  pub front : ℕ
  pub is_front : IsFrontBefore indices at nodes front
  pub is : row ≡ take front nodes ++ (replicate times number ++ drop front nodes)

-- how often a node is one of these
abbrev pub times_in : List ℕ → ℕ → ℕ
times_in nodes n = length (filter (λ other. other == n) nodes)

-- the rows of these nodes, where edges lead from the new node to all
abbrev pub AreSourceRows : List ℕ → Graph → ℕ → ℕ → List ℕ → List ℕ → Graph → Type 0
AreSourceRows indices sources at number all [] [] = Unit {0}
AreSourceRows indices sources at number all [] (row ∷ rows) = ⊥
AreSourceRows indices sources at number all (w ∷ ws) [] = ⊥
AreSourceRows indices sources at number all (w ∷ ws) (row ∷ rows) = IsSourceRow indices at number (times_in all w) (get_or sources w []) row × AreSourceRows indices sources at number all ws rows
