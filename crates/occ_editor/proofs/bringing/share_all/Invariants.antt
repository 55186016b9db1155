use Rattle.std.proofs.Common.{◌≡◌, ◌++◌, drop, map, take}
use Rattle.std.specs.BTreeMap.{get}
use Rattle.occ_editor.proofs.bringing.share_all.Given as goal
use Rattle.occ_editor.specs.inside.Bringing.{shared_by}
use Rattle.occ_project.specs.Reads.{name_cmp}

abbrev pub invariant-loop-place : goal.invariant-loop-place
invariant-loop-place l = l.texts.items ≡ map (shared_by (get name_cmp l.before)) (take l.place l.fn.texts.items) ++ drop l.place l.fn.texts.items
