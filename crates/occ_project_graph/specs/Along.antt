-- Recursion along the edges that stand in no circle: what a node has is made from what the nodes have that it rests on.
use Rattle.std.specs.Prelude.{◌≡◌, ℕ, zero, suc, Bool, true, false, ◌&&◌, length}
use Rattle.std.specs.List.{list_all}
use Rattle.occ_project_graph.specs.Graph.{Graph, is_among, rests}

-- so many times over, from a value that is never asked for
abbrev pub turns : {A : Type 0} → (ℕ → (ℕ → A) → A) → A → ℕ → ℕ → A
turns step base zero u = base
turns step base (suc n) u = step u (turns step base n)

-- what the step gives at a node, where it may ask for what it gives at each node that this one rests on
unfoldable pub along : {A : Type 0} → Graph → (ℕ → (ℕ → A) → A) → A → ℕ → A
along g step base u = turns step base (suc (length g)) u

-- the step asks for no other node
abbrev pub IsLocal : {A : Type 0} → Graph → (ℕ → (ℕ → A) → A) → Type 0
IsLocal {A} g step = (u : ℕ) (f h : ℕ → A) → ((v : ℕ) → is_among (rests g u) v ≡ true → f v ≡ h v) → step u f ≡ step u h

-- A node is done if it is good itself and all that it rests on are done.
abbrev pub done_step : Graph → (ℕ → Bool) → ℕ → (ℕ → Bool) → Bool
done_step g good u f = good u && list_all f (rests g u)

abbrev pub done : Graph → (ℕ → Bool) → ℕ → Bool
done g good = along g (done_step g good) false
