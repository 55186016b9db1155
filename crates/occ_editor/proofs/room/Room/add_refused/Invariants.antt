use Rattle.std.proofs.Common.{◌≡◌, List, None, drop, false, ℕ}
use Rattle.occ_editor.proofs.room.Room.add_refused.Given as goal
use Rattle.occ_editor.specs.Publishing.{refusal_at}
use Rattle.occ_editor.specs.inside.Shown.{Grows, has_key}

abbrev pub invariant-loop-refusal : goal.invariant-loop-refusal
invariant-loop-refusal l =
    Grows l.fn.paths l.paths
    × ((path : List ℕ) → has_key l.paths path ≡ false → refusal_at (drop l.refusal-index l.self.refusals.items) path ≡ None → refusal_at l.self.refusals.items path ≡ None)
