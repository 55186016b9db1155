use Rattle.occ_board.proofs.Least.{one_ready}
use Rattle.occ_board.proofs.laws.ready_law.Goals as goal
use Rattle.occ_board.specs.Machine.{files_of}

pub returns : goal.returns
returns c = λ s based spelled some none.
    let project = c.done_law.ensures.project s.base s.journal based in
    let high = c.height_law.ensures (files_of s) project in
    one_ready (files_of s) project (λ u v uses. c.names_law.ensures (files_of s) u v spelled uses) high.0 high.1 s.cached s.handed some none
