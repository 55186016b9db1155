use Rattle.std.proofs.Common.{◌≡◌, List, ℕ, drop}
use Rattle.occ_project.specs.Entries.{entries, file_entries}
use Rattle.occ_project_units.proofs.Noting.{inner_of}
use Rattle.occ_project_units.specs.inside.Skimming.{after}
use Rattle.occ_project_units.proofs.skimming.+note_lines.Given as goal

abbrev pub decreases-note_lines : goal.decreases-note_lines
decreases-note_lines l = l.left

abbrev pub invariant-loop-line : goal.invariant-loop-line
invariant-loop-line l = record {
  way : l.way ≡ l.fn.way;
  noted : (file : List ℕ) (raise : ℕ) → after l.noted (file_entries l.project l.fn.left (inner_of l.project l.fn.left) l.fn.way file raise (drop l.line-index l.lines))
      ≡ after l.fn.noted (entries l.project l.fn.left l.fn.way file raise l.lines);
}
