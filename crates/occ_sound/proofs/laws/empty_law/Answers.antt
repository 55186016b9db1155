use Rattle.occ_sound.proofs.Racing.{empty_races}
use Rattle.occ_sound.proofs.laws.empty_law.Goals as goal

pub returns : goal.returns
returns c = empty_races
