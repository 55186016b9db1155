use Rattle.occ_sound.proofs.Covers.{covers}
use Rattle.occ_sound.proofs.laws.uses_law.Goals as goal

pub returns : goal.returns
returns c = covers
