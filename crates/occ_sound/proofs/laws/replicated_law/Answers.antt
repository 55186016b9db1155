use Rattle.occ_sound.proofs.Racing.{rounds_race}
use Rattle.occ_sound.proofs.laws.replicated_law.Goals as goal

pub returns : goal.returns
returns c = rounds_race
