-- What is answered of the lines of a unit: its trees, or its diagnostics of shape.
use Rattle.std.specs.Prelude.{◌≡◌, ◌≢◌, List, []}
use Rattle.occ_project.specs.declared.expanded.ExpandedLine.{ExpandedLine}
use Rattle.occ_tree.specs.declared.tree.Node.{Node}
use Rattle.occ_tree.specs.declared.unit.ShapeFault.{ShapeFault}
use Rattle.occ_tree.specs.declared.unit.ShapeFault.TheVariants as fault
use Rattle.occ_tree.specs.Faults.{shape_faults}
use Rattle.occ_tree.specs.Forest.{Forest, forest_of}
use Rattle.occ_tree.specs.Obeys.{AreShallow, IsTreesOf, Obeys}

-- some trees that obey the table, no deeper than 64 levels, list the lines
abbrev pub HasShape : List ExpandedLine → Type 0
HasShape ls = (f : Forest) × IsTreesOf ls f × Obeys f × AreShallow ls

-- these nodes are such trees
abbrev pub IsShapeOf : List ExpandedLine → List Node → Type 0
IsShapeOf ls roots = IsTreesOf ls (forest_of roots) × Obeys (forest_of roots) × AreShallow ls

-- the diagnostics, at least one
abbrev pub Refuses : List ExpandedLine → ShapeFault → Type 0
Refuses ls (fault.Faults ds) = (ds ≡ shape_faults ls) × (ds ≢ [])
Refuses ls fault.Memory = Unit {0}
