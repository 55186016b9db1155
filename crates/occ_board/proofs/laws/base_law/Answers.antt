use Rattle.occ_board.proofs.Bases.{after_event, later, only_nothing}
use Rattle.occ_board.proofs.laws.base_law.Goals as goal

pub returns-clause-only : goal.returns-clause-only
returns-clause-only c = only_nothing

pub returns-clause-later : goal.returns-clause-later
returns-clause-later c = later

pub returns-clause-after : goal.returns-clause-after
returns-clause-after c = after_event
