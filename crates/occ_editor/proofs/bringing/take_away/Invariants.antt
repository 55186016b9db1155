use Rattle.std.proofs.Common.{◌≡◌, ◌&&◌, ℕ, List, None, cond, is_some, not, take}
use Rattle.std.specs.BTreeMap.{get}
use Rattle.occ_editor.proofs.bringing.take_away.Given as goal
use Rattle.occ_editor.specs.Placing.{source_on}
use Rattle.occ_editor.specs.Rooms.{HasTexts, source_in}
use Rattle.occ_files.specs.Gathering.{has_name}
use Rattle.occ_project.specs.Reads.{name_cmp}

abbrev pub invariant-loop-old : goal.invariant-loop-old
invariant-loop-old l = HasTexts l.fn.board l.olds → (name : List ℕ) → source_on l.board name ≡ cond (has_name (take l.old-index l.olds) name && not (is_some (get name_cmp l.news name))) None (source_in l.olds name)
