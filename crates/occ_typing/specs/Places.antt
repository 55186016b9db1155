-- The diagnostics of a unit said once more, place by place: those that are reported of some line by what stands in scope
-- there.
use Rattle.std.specs.Prelude.{◌≡◌, ◌⊎◌, List, [], ◌∷◌, ◌++◌}
use Rattle.occ_base.specs.declared.diag.Diag.{Diag}
use Rattle.occ_scope.specs.Visible.{nothing, with_all}
use Rattle.occ_scope.specs.declared.scope.Scope.{Scope}
use Rattle.occ_project.specs.declared.expanded.ExpandedLine.{ExpandedLine}
use Rattle.occ_tree.specs.Forest.{Forest, Tree}
use Rattle.occ_typing_lines.specs.Lines.{Judged, body_of}
use Rattle.occ_typing_lines.specs.Placed.{placed}
use Rattle.occ_typing_lines.specs.Judging.{judged}
use Rattle.occ_typing.specs.Units.{after_line}
use Rattle.occ_typing_lines.specs.declared.parent.Parent.{Parent}
use Rattle.occ_typing_lines.specs.declared.using.Import.{Import}
use Rattle.occ_typing_lines.specs.declared.parent.Role.TheVariants as role

-- a line with those under it, what its parent says of it, and what stands in scope there
pub record At : Type 0 where
  pub line : ExpandedLine
  pub under : Forest
  pub parent : Parent
  pub scope : Scope

abbrev pub judged_at : List Import → Parent → Scope → ExpandedLine → Forest → Judged
judged_at is p s l under = judged is s l.body under p

-- in scope under a line: what stands in scope there, and what it enters
abbrev pub inner : Judged → Scope → Scope
inner x s = with_all s x.line.enters

-- a line stands somewhere in trees of which their parent says p, where s stands in scope at the first of their lines and
-- outer round their item
pub data Stands (is : List Import) : Parent → Scope → Scope → Forest → At → Type 0 where
  first : (p : Parent) (outer s : Scope) (l : ExpandedLine) (under following : Forest)
      → Stands is p outer s (Tree l under following) (record { line = l; under = under; parent = p; scope = s })
  inside : (p : Parent) (outer s : Scope) (l : ExpandedLine) (under following : Forest) (a : At)
      → Stands is (judged_at is p s l under).line.parent (inner (judged_at is p s l under) s) (inner (judged_at is p s l under) s) under a
      → Stands is p outer s (Tree l under following) a
  later : (p : Parent) (outer s : Scope) (l : ExpandedLine) (under following : Forest) (a : At)
      → Stands is (judged_at is p s l under).line.next outer (after_line outer s (judged_at is p s l under).line.adds) following a
      → Stands is p outer s (Tree l under following) a

-- what a line reports, and, of a record, what the lines of its fields report
abbrev pub reported_at : List Import → At → List Diag
reported_at is a = (judged_at is a.parent a.scope a.line a.under).beneath ++ placed a.line (judged_at is a.parent a.scope a.line a.under).faults

abbrev pub IsAmong : Diag → List Diag → Type 0
IsAmong d [] = ⊥
IsAmong d (x ∷ xs) = (d ≡ x) ⊎ IsAmong d xs

abbrev pub IsReportedIn : List Import → Parent → Scope → Scope → Forest → Diag → Type 0
IsReportedIn is p outer s f d = (a : At) × Stands is p outer s f a × IsAmong d (reported_at is a)

-- of some line of a unit
abbrev pub IsReported : List Import → Forest → Diag → Type 0
IsReported is f d = IsReportedIn is (body_of role.Process) nothing nothing f d
