use Rattle.occ_project_graph.proofs.Turned.{only, reported}
use Rattle.occ_project_graph.proofs.laws.sources_law.Goals as goal

pub returns : goal.returns
returns c = λ g u v. (only g u v, reported g u v)
