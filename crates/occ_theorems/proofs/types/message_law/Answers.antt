use Rattle.occ_theorems.proofs.Messages.{message_silent, silent_message}
use Rattle.occ_theorems.proofs.types.message_law.Goals as goal

pub returns-clause-silent : goal.returns-clause-silent
returns-clause-silent c = message_silent

pub returns-clause-message : goal.returns-clause-message
returns-clause-message c = silent_message
