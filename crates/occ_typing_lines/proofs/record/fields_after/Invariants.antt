use Rattle.std.proofs.Common.{◌≡◌, ◌++◌, drop}
use Rattle.occ_tree.specs.Forest.{forest_of}
use Rattle.occ_typing_lines.specs.Records.{field_lines}
use Rattle.occ_typing_lines.proofs.record.fields_after.Given as goal

abbrev pub invariant-loop-node : goal.invariant-loop-node
invariant-loop-node l =
    (l.fields ++ (field_lines l.scope l.before (forest_of (drop l.node-index l.nodes))).fields ≡ l.initial.fields ++ (field_lines l.scope l.initial.before (forest_of l.nodes)).fields)
    × (l.found ++ (field_lines l.scope l.before (forest_of (drop l.node-index l.nodes))).diags ≡ l.initial.found ++ (field_lines l.scope l.initial.before (forest_of l.nodes)).diags)
