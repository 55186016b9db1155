use Rattle.occ_sound.proofs.Racing.{loop_races}
use Rattle.occ_sound.proofs.laws.condition_law.Goals as goal

pub returns : goal.returns
returns c = loop_races
