use Rattle.occ_sound.proofs.Racing.{assigns_twice}
use Rattle.occ_sound.proofs.laws.assigned_twice_law.Goals as goal

pub returns : goal.returns
returns c = assigns_twice
