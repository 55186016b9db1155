-- The diagnostics of names and types of the lines of a unit, by what stands in scope at each of them.
use Rattle.std.specs.Prelude.{Option, Some, None, List, [], ◌++◌}
use Rattle.occ_base.specs.declared.diag.Diag.{Diag}
use Rattle.occ_scope.specs.Visible.{nothing, with_all}
use Rattle.occ_scope.specs.declared.meaning.ScopeEntry.{ScopeEntry}
use Rattle.occ_scope.specs.declared.scope.Scope.{Scope}
use Rattle.occ_project.specs.declared.expanded.ExpandedLine.{ExpandedLine}
use Rattle.occ_tree.specs.Forest.{Forest, Empty, Tree}
use Rattle.occ_typing_lines.specs.Judging.{judged}
use Rattle.occ_typing_lines.specs.Lines.{body_of}
use Rattle.occ_typing_lines.specs.Placed.{placed}
use Rattle.occ_typing_lines.specs.declared.parent.Parent.{Parent}
use Rattle.occ_typing_lines.specs.declared.parent.Role.TheVariants as role
use Rattle.occ_typing_lines.specs.declared.using.Import.{Import}

-- what stands in scope after a line: a specification adds to the item, a main line ends it
abbrev pub after_line : Scope → Scope → Option (List ScopeEntry) → Scope
after_line outer s None = outer
after_line outer s (Some adds) = with_all s adds

-- of lines of which their parent says this; s stands in scope at the first of them, and outer at the next item
abbrev pub lines : List Import → Parent → Scope → Scope → Forest → List Diag
lines is p outer s Empty = []
lines is p outer s (Tree l under following) =
    let x = judged is s l.body under p in
    let inner = with_all s x.line.enters in
    (x.beneath ++ (lines is x.line.parent inner inner under ++ placed l x.faults))
    ++ lines is x.line.next outer (after_line outer s x.line.adds) following

-- of a line, of those of fields that it reports, and of those under it
abbrev pub line_faults : List Import → Parent → Scope → ExpandedLine → Forest → List Diag
line_faults is p s l under =
    let x = judged is s l.body under p in
    let inner = with_all s x.line.enters in
    x.beneath ++ (lines is x.line.parent inner inner under ++ placed l x.faults)

-- of the lines of a unit: nothing is in scope at the first
abbrev pub type_faults : List Import → Forest → List Diag
type_faults is f = lines is (body_of role.Process) nothing nothing f
