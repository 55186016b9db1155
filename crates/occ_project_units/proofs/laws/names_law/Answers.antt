use Rattle.occ_project_units.proofs.Spelled.{uses_units}
use Rattle.occ_project_units.proofs.laws.names_law.Goals as goal

pub returns : goal.returns
returns c = uses_units
