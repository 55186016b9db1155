use Rattle.std.proofs.Common.{◌≡◌, drop}
use Rattle.occ_editor.proofs.room.Room.refusal_of.Given as goal
use Rattle.occ_editor.specs.Publishing.{refusal_at}

abbrev pub invariant-loop-refusal : goal.invariant-loop-refusal
invariant-loop-refusal l = refusal_at (drop l.refusal-index l.self.refusals.items) l.path ≡ refusal_at l.self.refusals.items l.path
