use Rattle.std.proofs.Common.{◌≡◌, List, true, ℕ}
use Rattle.occ_board.proofs.Looked.{none_verified}
use Rattle.occ_board.proofs.Settled.{none_each}
use Rattle.occ_board.proofs.touching.settle_anew.Goals as goal
use Rattle.occ_board.specs.Done.{done}

pub settle-requires-clause-sound : goal.settle-requires-clause-sound
settle-requires-clause-sound c = none_each c.args.graph.now (λ (u : List ℕ). done c.args.graph.now c.args.cached.now u ≡ true) c.unflag_all.new.flags c.unflag_all.ensures.flags

pub settle-requires-clause-verified : goal.settle-requires-clause-verified
settle-requires-clause-verified c = none_verified c.args.graph.now c.args.cached.now c.unflag_all-2.new.flags c.unflag_all-2.ensures.flags
