use Rattle.occ_project_graph.proofs.Turns.{along_is, along_only}
use Rattle.occ_project_graph.proofs.laws.along_law.Goals as goal

pub returns-clause-step : goal.returns-clause-step
returns-clause-step t c = along_is

pub returns-clause-only : goal.returns-clause-only
returns-clause-only t c = along_only
