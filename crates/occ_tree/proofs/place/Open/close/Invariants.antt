use Rattle.std.proofs.Common.{◌≡◌, ◌∷◌, length}
use Rattle.occ_tree.specs.inside.Frames.{still_open}
use Rattle.occ_tree.proofs.place.Open.close.Given as goal

abbrev pub invariant-loop-self : goal.invariant-loop-self
invariant-loop-self l = still_open l.depth (l.self.innermost ∷ l.self.outer) ≡ still_open l.depth (l.initial.self.innermost ∷ l.initial.self.outer)

abbrev pub decreases-loop-self : goal.decreases-loop-self
decreases-loop-self l = length l.self.outer
