use Rattle.occ_theorems.proofs.Reached.{all_sound}
use Rattle.occ_theorems.proofs.machine.sound_law.Goals as goal

pub returns : goal.returns
returns c = all_sound
