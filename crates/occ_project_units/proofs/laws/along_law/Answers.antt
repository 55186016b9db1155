use Rattle.occ_project_units.proofs.Below.{along_units}
use Rattle.occ_project_units.proofs.laws.along_law.Goals as goal

pub returns : goal.returns
returns g c = λ files step base sorted here. along_units files step base sorted here c.along_law.ensures.step
