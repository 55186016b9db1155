-- A search: it goes along edges from one node, through those that have a mark among others, and gives its own mark to all.
use Rattle.std.specs.Prelude.{◌≡◌, ◌<◌, ◌≤◌, ◌+◌, ℕ, Bool, true, not, ◌&&◌, ◌==◌, cond, ◌⊎◌, List, [], ◌∷◌, ◌++◌, length, get_or, nat_lt, set, drop}
use Rattle.occ_project_graph.specs.Graph.{Graph, has_edge, is_among, reaches}
use Rattle.occ_project_graph.specs.declared.search.Seen.{Seen}

-- the mark of a node; what is no node has 0
abbrev pub mark_at : List ℕ → ℕ → ℕ
mark_at marks v = get_or marks v 0

-- it goes on to a node that has this mark among others, and not yet its own
abbrev pub is_next : List ℕ → ℕ → ℕ → List ℕ → ℕ → Bool
is_next others other mark marks v = nat_lt v (length marks) && ((mark_at others v == other) && not (mark_at marks v == mark))

abbrev pub unmarked : ℕ → List ℕ → ℕ
unmarked mark [] = 0
unmarked mark (m ∷ ms) = cond (m == mark) 0 1 + unmarked mark ms

abbrev pub seen_with : List ℕ → ℕ → ℕ → Seen → ℕ → Seen
seen_with others other mark s v = cond (is_next others other mark s.marks v) (record { marks = set s.marks v mark; queue = s.queue ++ v ∷ [] }) s

abbrev pub seen_all : List ℕ → ℕ → ℕ → Seen → List ℕ → Seen
seen_all others other mark s [] = s
seen_all others other mark s (v ∷ vs) = seen_all others other mark (seen_with others other mark s v) vs

-- what it may come to
abbrev pub IsOpen : List ℕ → ℕ → List ℕ → ℕ → Type 0
IsOpen others other marks v = (v < length marks) × (mark_at others v ≡ other)

-- where no node has its mark before
abbrev pub IsFresh : ℕ → List ℕ → Type 0
IsFresh from marks = (v : ℕ) → mark_at marks v ≡ from + 1 → ⊥

-- where it has ended: what it has come to is closed under edges to what it may come to, and is reached from the node
pub record IsFound (g : Graph) (others : List ℕ) (other from : ℕ) (old new : List ℕ) : Type 0 where
  pub len : length new ≡ length old
  pub kept : (v : ℕ) → (mark_at new v ≡ from + 1) ⊎ (mark_at new v ≡ mark_at old v)
  pub reached : (v : ℕ) → mark_at new v ≡ from + 1 → (reaches g from v ≡ true) × (mark_at others v ≡ other)
  pub start : (v : ℕ) → has_edge g from v ≡ true → IsOpen others other old v → mark_at new v ≡ from + 1
  pub closed : (u v : ℕ) → mark_at new u ≡ from + 1 → has_edge g u v ≡ true → IsOpen others other old v → mark_at new v ≡ from + 1

-- on its way, with the nodes after the first n of the queue still to be gone on from
pub record IsSearch (g : Graph) (others : List ℕ) (other from : ℕ) (old : List ℕ) (s : Seen) (n : ℕ) : Type 0 where
  pub within : n ≤ length s.queue
  pub len : length s.marks ≡ length old
  pub count : unmarked (from + 1) s.marks + length s.queue ≡ unmarked (from + 1) old
  pub queued : (u : ℕ) → is_among s.queue u ≡ true → reaches g from u ≡ true
  pub kept : (v : ℕ) → (mark_at s.marks v ≡ from + 1) ⊎ (mark_at s.marks v ≡ mark_at old v)
  pub reached : (v : ℕ) → mark_at s.marks v ≡ from + 1 → (reaches g from v ≡ true) × (mark_at others v ≡ other)
  pub start : (v : ℕ) → has_edge g from v ≡ true → IsOpen others other old v → mark_at s.marks v ≡ from + 1
  pub closed : (u v : ℕ) → mark_at s.marks u ≡ from + 1 → has_edge g u v ≡ true → IsOpen others other old v → (mark_at s.marks v ≡ from + 1) ⊎ (is_among (drop n s.queue) u ≡ true)
