use Rattle.occ_project_units.proofs.Kept.{edges_are, edges_whole}
use Rattle.occ_project_units.proofs.Sharing.{if_ok}
use Rattle.occ_project_units.proofs.links.links_of.Goals as goal
use Rattle.occ_project_units.specs.Indices.{graph_of}

pub of-requires : goal.of-requires
of-requires c = edges_whole c.args.project.now c.args.facts.now c.in_ok-edges.edges.items c.requires c.in_ok-edges.ensures

pub returns : goal.returns
returns c =
    if_ok c.of.result c.in_ok-edges.edges.items (graph_of c.args.project.now) c.of.ensures (edges_are c.args.project.now c.args.facts.now c.in_ok-edges.edges.items c.requires c.in_ok-edges.ensures)
