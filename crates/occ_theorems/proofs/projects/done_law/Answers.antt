use Rattle.occ_theorems.proofs.Turns.{done_is, done_more, done_only}
use Rattle.occ_theorems.proofs.projects.done_law.Goals as goal

pub returns-clause-step : goal.returns-clause-step
returns-clause-step c = done_is

pub returns-clause-only : goal.returns-clause-only
returns-clause-only c = done_only

pub returns-clause-more : goal.returns-clause-more
returns-clause-more c = done_more
