use Rattle.occ_sound.proofs.Racing.{part_races}
use Rattle.occ_sound.proofs.laws.subscript_law.Goals as goal

pub returns : goal.returns
returns c = part_races
