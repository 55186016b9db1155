use Rattle.std.proofs.Common.{◌≡◌, ◌++◌, ◌≤◌, drop, length}
use Rattle.occ_scope.specs.Visible.{back_to}
use Rattle.occ_tree.specs.Forest.{forest_of}
use Rattle.occ_typing.specs.TypedLines.{typed_lines}
use Rattle.occ_typing.specs.Units.{lines}
use Rattle.occ_typing.proofs.walk.+lines.Given as goal

abbrev pub invariant-lines_kept-loop-node : goal.invariant-lines_kept-loop-node
invariant-lines_kept-loop-node l =
    (l.outer ≤ length l.scope.meanings)
    × (back_to l.outer l.scope ≡ l.initial.scope)
    × (l.typed ++ typed_lines l.imports l.parent l.initial.scope l.scope (forest_of (drop l.node-index l.nodes)) ≡ typed_lines l.imports l.initial.parent l.initial.scope l.initial.scope (forest_of l.nodes))
    × (l.found ++ lines l.imports l.parent l.initial.scope l.scope (forest_of (drop l.node-index l.nodes)) ≡ l.initial.found ++ lines l.imports l.initial.parent l.initial.scope l.initial.scope (forest_of l.nodes))
