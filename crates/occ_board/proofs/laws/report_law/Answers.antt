use Rattle.occ_board.proofs.AllShown.{all_shown}
use Rattle.occ_board.proofs.laws.report_law.Goals as goal
use Rattle.occ_board.specs.Done.{done}
use Rattle.occ_board.specs.Machine.{files_of}
use Rattle.occ_check.specs.Checks.{diags}
use Rattle.occ_check.specs.Report.{open_units}

pub returns : goal.returns
returns c = λ s h. all_shown (done (files_of s) s.cached) (diags (files_of s)) (open_units (files_of s)) h
