-- The diagnostics of shape of a unit.
use Rattle.std.specs.Prelude.{Bool, List, [], ◌∷◌, ◌++◌, nat_lt}
use Rattle.occ_base.specs.declared.code.Code.TheVariants as code
use Rattle.occ_base.specs.declared.diag.Diag.{Diag}
use Rattle.occ_base.specs.Errors.{error_if}
use Rattle.occ_project.specs.declared.expanded.ExpandedLine.{ExpandedLine}
use Rattle.occ_tree.specs.Sorts.{outlines}
use Rattle.occ_tree.specs.Wrong.{wrong}

-- S2 at a line that stands wrong or lacks something, S4 at a line of a depth over 64
abbrev pub line_faults : ExpandedLine → Bool → List Diag
line_faults l is_wrong = error_if is_wrong l.file l.line code.S2 ++ error_if (nat_lt 64 l.depth) l.file l.line code.S4

-- those of each line, where one is reported for each whether it is wrong
abbrev pub faults_at : List ExpandedLine → List Bool → List Diag
faults_at [] ws = []
faults_at (l ∷ ls) [] = []
faults_at (l ∷ ls) (w ∷ ws) = line_faults l w ++ faults_at ls ws

-- the diagnostics of shape of a unit with these lines, in the order of the lines
abbrev pub shape_faults : List ExpandedLine → List Diag
shape_faults ls = faults_at ls (wrong (outlines ls))
