use Rattle.std.proofs.Common.{◌∙◌}
use Rattle.std.proofs.lemmas.Bool.{le-ltb}
use Rattle.occ_project_graph.proofs.Numbered.{node_past, node_there}
use Rattle.occ_project_graph.proofs.linked.has_node.Goals as goal

pub returns-then-index-numbers : goal.returns-then-index-numbers
returns-then-index-numbers c =
    c.is_node.ensures ∙ node_there c.args.numbers.now c.args.indices.now c.args.nodes.now c.args.index c.requires.numbered c.requires.within c.if-index-numbers.true

pub returns-else-index-numbers : goal.returns-else-index-numbers
returns-else-index-numbers c =
    le-ltb c.args.index _ c.if-index-numbers.false ∙ node_past c.args.numbers.now c.args.indices.now c.args.nodes.now c.args.index c.requires.numbered c.requires.within c.if-index-numbers.false
