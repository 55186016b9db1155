use Rattle.occ_board.proofs.Taken.{next_acceptable}
use Rattle.occ_board.proofs.Worked.{worked_is}
use Rattle.occ_board.proofs.working.working_law.Goals as goal
use Rattle.occ_board.specs.Machine.{files_of}

pub returns-clause-acceptable : goal.returns-clause-acceptable
returns-clause-acceptable c = λ s i based e.
    let project = c.done_law.ensures.project s.base s.journal based in
    let high = c.height_law.ensures (files_of s) project in
    next_acceptable (files_of s) project (λ cached u. c.done_law.ensures.done (files_of s) cached u project) high.0 high.1 s.cached s.handed i e

pub returns-clause-after : goal.returns-clause-after
returns-clause-after c = λ s i based e. worked_is s i e (c.taking_law.ensures.accepted s i based e)
