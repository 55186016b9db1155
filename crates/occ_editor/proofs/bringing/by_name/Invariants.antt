use Rattle.std.proofs.Common.{◌≡◌, ℕ, List, take, true}
use Rattle.std.specs.BTreeMap.{get}
use Rattle.occ_editor.proofs.bringing.by_name.Given as goal
use Rattle.occ_editor.specs.Rooms.{source_in}
use Rattle.occ_files.specs.Gathering.{are_apart}
use Rattle.occ_project.specs.Reads.{name_cmp}

abbrev pub invariant-loop-text : goal.invariant-loop-text
invariant-loop-text l = are_apart l.texts ≡ true → (name : List ℕ) → get name_cmp l.sources name ≡ source_in (take l.text-index l.texts) name
