use Rattle.occ_sound.proofs.Racing.{assigns_aliases}
use Rattle.occ_sound.proofs.laws.alias_law.Goals as goal

pub returns : goal.returns
returns c = assigns_aliases
