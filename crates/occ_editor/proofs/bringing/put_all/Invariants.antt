use Rattle.std.proofs.Common.{◌≡◌, ℕ, List, cond, take}
use Rattle.std.specs.BTreeMap.{get}
use Rattle.occ_editor.proofs.bringing.put_all.Given as goal
use Rattle.occ_editor.specs.Placing.{source_on}
use Rattle.occ_editor.specs.Rooms.{source_in}
use Rattle.occ_editor.specs.inside.Bringing.{HasKept}
use Rattle.occ_files.specs.Gathering.{has_name}
use Rattle.occ_project.specs.Reads.{name_cmp}

abbrev pub invariant-loop-text : goal.invariant-loop-text
invariant-loop-text l = HasKept l.fn.board (get name_cmp l.before) l.texts → (name : List ℕ) → source_on l.board name ≡ cond (has_name (take l.text-index l.texts) name) (source_in l.texts name) (source_on l.fn.board name)
