use Rattle.std.proofs.Common.{◌≡◌, ◌++◌, drop}
use Rattle.occ_tree.specs.Forest.{forest_of}
use Rattle.occ_typing_lines.specs.Protocols.{tag_lines}
use Rattle.occ_typing_lines.proofs.protocol.tags_after.Given as goal

abbrev pub invariant-loop-node : goal.invariant-loop-node
invariant-loop-node l =
    (l.tags ++ (tag_lines l.scope l.before (forest_of (drop l.node-index l.nodes))).tags ≡ l.initial.tags ++ (tag_lines l.scope l.initial.before (forest_of l.nodes)).tags)
    × (l.found ++ (tag_lines l.scope l.before (forest_of (drop l.node-index l.nodes))).diags ≡ l.initial.found ++ (tag_lines l.scope l.initial.before (forest_of l.nodes)).diags)
