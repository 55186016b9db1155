use Rattle.occ_sound.proofs.Racing.{pass_races}
use Rattle.occ_sound.proofs.laws.actual_law.Goals as goal

pub returns : goal.returns
returns c = pass_races
