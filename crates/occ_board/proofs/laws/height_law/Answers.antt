use Rattle.occ_board.proofs.Heights.{falls, height, height_local, height_step}
use Rattle.occ_board.proofs.laws.height_law.Goals as goal

pub returns : goal.returns
returns c = λ files h. (height files, falls files (c.along_law.ensures files (height_step files) 0 h (height_local files)))
