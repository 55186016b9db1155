use Rattle.occ_board.proofs.Taken.{next_accepted, next_fewer, none_next}
use Rattle.occ_board.proofs.laws.taking_law.Goals as goal
use Rattle.occ_board.specs.Machine.{files_of, number_of}

pub returns-clause-accepted : goal.returns-clause-accepted
returns-clause-accepted c = λ s i based e.
    let project = c.done_law.ensures.project s.base s.journal based in
    let high = c.height_law.ensures (files_of s) project in
    next_accepted (files_of s) project (λ cached u. c.done_law.ensures.done (files_of s) cached u project) high.0 high.1 s.cached (number_of s) s.handed i e

pub returns-clause-fewer : goal.returns-clause-fewer
returns-clause-fewer c = λ s i based e.
    let project = c.done_law.ensures.project s.base s.journal based in
    let high = c.height_law.ensures (files_of s) project in
    next_fewer (files_of s) project (λ cached u. c.done_law.ensures.done (files_of s) cached u project) high.0 high.1 s.cached (number_of s) s.handed i e

pub returns-clause-none : goal.returns-clause-none
returns-clause-none c = λ s e. none_next (files_of s) s.cached s.handed e
