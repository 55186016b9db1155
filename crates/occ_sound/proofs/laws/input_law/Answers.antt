use Rattle.occ_sound.proofs.Racing.{input_races}
use Rattle.occ_sound.proofs.laws.input_law.Goals as goal

pub returns : goal.returns
returns c = input_races
