use Rattle.occ_board.specs.Machine.{files_of}
use Rattle.occ_theorems.proofs.Reports.{right_report}
use Rattle.occ_theorems.proofs.board.right_report_law.Goals as goal

pub returns : goal.returns
returns c = λ s based. right_report s (c.report_law.ensures s) (λ u v. c.circular_use_law.ensures.named (files_of s) u v (c.done_law.ensures.project s.base s.journal based))
