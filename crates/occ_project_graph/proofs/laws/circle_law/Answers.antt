use Rattle.occ_project_graph.proofs.Ways.{way, circle}
use Rattle.occ_project_graph.proofs.laws.circle_law.Goals as goal

pub returns-clause-way : goal.returns-clause-way
returns-clause-way c = way

pub returns-clause-circle : goal.returns-clause-circle
returns-clause-circle c = circle
