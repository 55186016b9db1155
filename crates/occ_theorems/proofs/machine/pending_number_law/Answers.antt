use Rattle.occ_theorems.proofs.Unaccepted.{cached_unless}
use Rattle.occ_theorems.proofs.machine.pending_number_law.Goals as goal

pub returns-clause-judged : goal.returns-clause-judged
returns-clause-judged c = cached_unless
