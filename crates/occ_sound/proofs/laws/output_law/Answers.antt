use Rattle.occ_sound.proofs.Racing.{output_races}
use Rattle.occ_sound.proofs.laws.output_law.Goals as goal

pub returns : goal.returns
returns c = output_races
