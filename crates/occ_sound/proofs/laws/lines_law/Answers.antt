use Rattle.occ_sound.proofs.Units.{lines_free}
use Rattle.occ_sound.proofs.laws.lines_law.Goals as goal

pub returns : goal.returns
returns c = lines_free
