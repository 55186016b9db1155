use Rattle.occ_sound.proofs.Cells.{apart_cells}
use Rattle.occ_sound.proofs.laws.places_law.Goals as goal

pub returns : goal.returns
returns c = apart_cells
