-- Graphs by indices: for each node, which is a number from 0, the nodes to which edges lead from it.
use Rattle.std.specs.Prelude.{◌≡◌, ◌<◌, ℕ, zero, suc, Bool, true, not, ◌&&◌, ◌||◌, ◌==◌, ◌⊎◌, ◌+◌, List, [], ◌∷◌, length, get_or}
use Rattle.std.specs.List.{filter, list_any}

abbrev pub Graph : Type 0
Graph = List (List ℕ)

-- where edges lead from a node
abbrev pub targets : Graph → ℕ → List ℕ
targets g u = get_or g u []

abbrev pub is_among : List ℕ → ℕ → Bool
is_among ws v = list_any (λ w. w == v) ws

abbrev pub has_edge : Graph → ℕ → ℕ → Bool
has_edge g u v = is_among (targets g u) v

-- each edge leads to a node
abbrev pub IsWhole : Graph → Type 0
IsWhole g = (u v : ℕ) → has_edge g u v ≡ true → v < length g

-- edges lead from u to v through these nodes, one after the other
abbrev pub Path : Graph → ℕ → List ℕ → ℕ → Type 0
Path g u [] v = has_edge g u v ≡ true
Path g u (w ∷ ws) v = (has_edge g u w ≡ true) × Path g w ws v

-- one edge or more lead from u to v
abbrev pub Reaches : Graph → ℕ → ℕ → Type 0
Reaches g u v = (ws : List ℕ) × Path g u ws v

-- an edge from u to v stands in a circle
abbrev pub IsCircular : Graph → ℕ → ℕ → Type 0
IsCircular g u v = (u ≡ v) ⊎ Reaches g v u

-- The same by tests. From u to v through none but the nodes below n: through n - 1 at most once.
abbrev pub reaches_below : Graph → ℕ → ℕ → ℕ → Bool
reaches_below g zero u v = has_edge g u v
reaches_below g (suc n) u v = reaches_below g n u v || (reaches_below g n u n && reaches_below g n n v)

abbrev pub reaches : Graph → ℕ → ℕ → Bool
reaches g u v = reaches_below g (length g) u v

abbrev pub is_circular : Graph → ℕ → ℕ → Bool
is_circular g u v = (u == v) || reaches g v u

-- a node rests on the targets of its edges that stand in no circle
abbrev pub rests : Graph → ℕ → List ℕ
rests g u = filter (λ v. not (is_circular g u v)) (targets g u)

-- for each of the nodes from u on, so many
abbrev pub rests_from : Graph → ℕ → ℕ → List (List ℕ)
rests_from g u zero = []
rests_from g u (suc n) = rests g u ∷ rests_from g (u + 1) n

-- for each node those that it rests on
abbrev pub all_rests : Graph → List (List ℕ)
all_rests g = rests_from g 0 (length g)
