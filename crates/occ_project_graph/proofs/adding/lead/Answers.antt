use Rattle.occ_project_graph.proofs.Numbered.{rows_many}
use Rattle.occ_project_graph.proofs.adding.lead.Goals as goal

pub returns-clause-many : goal.returns-clause-many
returns-clause-many c = rows_many c.args.indices.now c.as_slice-2.result.now c.args.at c.args.number c.args.nodes.now c.args.nodes.now c.in_ok-found.found c.in_ok-found.ensures
