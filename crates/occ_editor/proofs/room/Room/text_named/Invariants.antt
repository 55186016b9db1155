use Rattle.std.proofs.Common.{◌≡◌, drop}
use Rattle.occ_editor.proofs.room.Room.text_named.Given as goal
use Rattle.occ_editor.specs.inside.Shown.{text_named}

abbrev pub invariant-loop-text : goal.invariant-loop-text
invariant-loop-text l = text_named (drop l.text-index l.self.texts.items) l.name ≡ text_named l.self.texts.items l.name
