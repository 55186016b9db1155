use Rattle.occheck_script.proofs.Left.{front_of_more, rest_front, rest_written}
use Rattle.occheck_script.proofs.held.without_memory.Goals as goal

pub returns-in-Ok-clause-halted : goal.returns-in-Ok-clause-halted
returns-in-Ok-clause-halted g c = λ before all more h. rest_written before _ _ _ all c.in-Ok.ensures.ok h

pub returns-in-Err-clause-halted : goal.returns-in-Err-clause-halted
returns-in-Err-clause-halted g c = λ before all more h. front_of_more before _ all more (rest_front before _ _ _ all c.in-Err.ensures.front h)
