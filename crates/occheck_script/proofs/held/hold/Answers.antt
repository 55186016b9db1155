use Rattle.occheck_script.proofs.Left.{front_of_more, map_err, map_ok}
use Rattle.occheck_script.proofs.held.hold.Goals as goal

pub returns-in-Ok-clause-held : goal.returns-in-Ok-clause-held
returns-in-Ok-clause-held g c = map_ok c.hold_behind.result c.hold_behind.ensures.held (λ k. λ before all h. k before all (c.in-Ok.ensures.held before all h))

pub returns-in-Ok-clause-halted : goal.returns-in-Ok-clause-halted
returns-in-Ok-clause-halted g c = map_err c.hold_behind.result _ _ c.hold_behind.ensures.halted (λ _ k. λ before all h. k before all (c.in-Ok.ensures.held before all h))

pub returns-in-Err-clause-halted : goal.returns-in-Err-clause-halted
returns-in-Err-clause-halted g c = λ before all h. front_of_more before _ all c.args.answer.items (c.in-Err.ensures.front before all h)
