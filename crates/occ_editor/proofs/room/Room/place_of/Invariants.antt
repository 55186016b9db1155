use Rattle.std.proofs.Common.{◌≡◌, drop}
use Rattle.occ_editor.proofs.room.Room.place_of.Given as goal
use Rattle.occ_editor.specs.inside.Placed.{place_from}

abbrev pub invariant-loop-place : goal.invariant-loop-place
invariant-loop-place l = place_from l.place (drop l.place l.self.texts.items) l.path ≡ place_from 0 l.self.texts.items l.path
