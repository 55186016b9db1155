use Rattle.occ_sound.proofs.Units.{unit_free}
use Rattle.occ_sound.proofs.laws.race_law.Goals as goal

pub returns : goal.returns
returns c = unit_free
