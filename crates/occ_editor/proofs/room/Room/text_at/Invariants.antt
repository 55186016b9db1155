use Rattle.std.proofs.Common.{◌≡◌, drop}
use Rattle.occ_editor.proofs.room.Room.text_at.Given as goal
use Rattle.occ_editor.specs.Publishing.{text_at}

abbrev pub invariant-loop-text : goal.invariant-loop-text
invariant-loop-text l = text_at (drop l.text-index l.self.texts.items) l.path ≡ text_at l.self.texts.items l.path
