use Rattle.occ_project.specs.Reads.{index}
use Rattle.occ_project_units.proofs.Sharing.{links_stay, placed_by}
use Rattle.occ_project_units.proofs.graph.Graph.links_after.Goals as goal

pub returns : goal.returns
returns c =
    links_stay c.args.self.now c.self.inside.project c.args.project.now c.self.inside.facts.items c.as_slice.result.now c.args.facts.now c.self.inside.links c.self.inside.readers c.self.inside.lookers c.args.edited c.self.view_is c.self.invariant c.as_slice.ensures.value c.requires.facts
    (c.use_same.ensures c.if-not-use_same.false) (placed_by c.index.result (index c.args.edited c.self.inside.project) c.is_none.result c.index.ensures c.is_none.ensures c.if-is_none.false) c.requires.indices
