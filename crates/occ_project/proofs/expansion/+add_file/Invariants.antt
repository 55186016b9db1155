use Rattle.std.proofs.Common.{◌≡◌, drop}
use Rattle.occ_project.specs.Entries.{entries, file_entries}
use Rattle.occ_project.specs.inside.Making.{after}
use Rattle.occ_project.proofs.Inclusions.{inner_of}
use Rattle.occ_project.proofs.expansion.+add_file.Given as goal

abbrev pub decreases-add_file : goal.decreases-add_file
decreases-add_file l = l.opened.now.left

abbrev pub invariant-loop-line : goal.invariant-loop-line
invariant-loop-line l = record {
  way : l.way ≡ l.fn.way;
  made : after l.made (file_entries l.files.reads.now l.fn.opened.left (inner_of l.files.reads.now l.fn.opened.left) l.fn.way l.fn.opened.file l.fn.opened.raise (drop l.line-index l.lines))
      ≡ after l.fn.made (entries l.files.reads.now l.fn.opened.left l.fn.way l.fn.opened.file l.fn.opened.raise l.lines);
}
