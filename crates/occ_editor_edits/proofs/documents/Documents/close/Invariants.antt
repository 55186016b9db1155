use Rattle.std.proofs.Common.{◌≡◌, ◌++◌, ◌-◌, drop, length, take}
use Rattle.occ_editor_edits.specs.Documents.{without}
use Rattle.occ_editor_edits.proofs.documents.Documents.close.Given as goal

abbrev pub invariant-loop-index : goal.invariant-loop-index
invariant-loop-index l = take l.index l.self.all.items ++ without l.path (drop l.index l.self.all.items) ≡ without l.path l.fn.self.all.items

abbrev pub decreases-loop-index : goal.decreases-loop-index
decreases-loop-index l = length l.self.all.items - l.index
