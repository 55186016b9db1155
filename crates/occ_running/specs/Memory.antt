-- Memory: cells, and elements as what was selected from a variable step by step.
use Rattle.std.specs.Prelude.{◌≡◌, ◌⊎◌, ℕ, ℤ, pos, ◌+ℤ◌, int_le, int_lt, true, List, [], ◌∷◌}

-- from an element to its field of a name, or to its component at a place
pub data Step : Type 0 where
  To : List ℕ → Step
  At : ℤ → Step

-- Where a line runs: in which components of PARs and in which calls, the outermost first.
pub data Mark : Type 0 where
  InComponent : ℕ → Mark
  InCall : Mark

abbrev pub Thread : Type 0
Thread = List Mark

-- A cell of a variable or a channel: how many specifications stand round its declaration, the components and calls in which it is
-- declared, and what leads to it. So the variables of one scope, of two components, and of a PROC and its caller lie apart. A
-- loop, and a call that comes later, comes back to the same cells.
pub record Cell : Type 0 where
  pub root : ℕ
  pub thread : Thread
  pub steps : List Step

-- An element: a variable or a channel, or what is selected from an element. RETYPES and RESHAPES lay other parts over its cells,
-- no two of them over one cell.
pub data Spot : Type 0 where
  Variable : ℕ → Thread → Spot
  FieldOf : Spot → List ℕ → Spot
  ComponentOf : Spot → ℤ → Spot
  -- so many components, from this one on
  SegmentOf : Spot → ℤ → ℤ → Spot
  Recast : Spot → (layout : List Step → List Step) → ((one other : List Step) → layout one ≡ layout other → one ≡ other) → Spot

-- the component of a segment with this number is one of it
abbrev pub IsWithin : ℤ → ℤ → Type 0
IsWithin k n = (int_le (pos 0) k ≡ true) × (int_lt k n ≡ true)

-- From the element these steps lead to the cell. From a segment they lead to one of its components alone, counted from its first.
abbrev pub Reaches : Spot → List Step → Cell → Type 0
Reaches (Variable n thread) steps c = c ≡ record { root = n; thread = thread; steps = steps }
Reaches (FieldOf el name) steps c = Reaches el (To name ∷ steps) c
Reaches (ComponentOf el k) steps c = Reaches el (At k ∷ steps) c
Reaches (SegmentOf el b n) [] c = ⊥
Reaches (SegmentOf el b n) (To name ∷ steps) c = ⊥
Reaches (SegmentOf el b n) (At k ∷ steps) c = IsWithin k n × Reaches el (At (b +ℤ k) ∷ steps) c
Reaches (Recast el layout apart) steps c = Reaches el (layout steps) c

-- a cell of the element
abbrev pub Has : Spot → Cell → Type 0
Has el c = (steps : List Step) × Reaches el steps c

abbrev pub IsOneOf : {X : Type 0} → List X → X → Type 0
IsOneOf [] x = ⊥
IsOneOf (y ∷ ys) x = (x ≡ y) ⊎ IsOneOf ys x
