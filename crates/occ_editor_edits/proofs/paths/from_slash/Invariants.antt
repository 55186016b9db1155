use Rattle.std.proofs.Common.{◌≡◌, drop}
use Rattle.occ_editor_edits.specs.Messages.{from_slash}
use Rattle.occ_editor_edits.proofs.paths.from_slash.Given as goal

abbrev pub invariant-loop-at : goal.invariant-loop-at
invariant-loop-at l = from_slash (drop l.at l.rest) ≡ from_slash l.rest
