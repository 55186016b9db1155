use Rattle.std.proofs.Common.{◌≡◌, drop}
use Rattle.occ_editor.proofs.editor.refusal_in.Given as goal
use Rattle.occ_editor.specs.Publishing.{why_of}

abbrev pub invariant-loop-room : goal.invariant-loop-room
invariant-loop-room l = why_of (drop l.room-index l.rooms) l.path ≡ why_of l.rooms l.path
