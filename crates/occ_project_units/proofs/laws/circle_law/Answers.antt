use Rattle.occ_project_units.proofs.Rounds.{circular_both}
use Rattle.occ_project_units.proofs.laws.circle_law.Goals as goal

pub returns : goal.returns
returns c = λ files. circular_both files c.circle_law.ensures.circle
