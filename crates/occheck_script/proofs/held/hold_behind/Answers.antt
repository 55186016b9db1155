use Rattle.std.proofs.Common.{◌++◌, List, ℕ, subst, sym}
use Rattle.occheck_script.specs.inside.Going.{Left}
use Rattle.occheck_script.proofs.Left.{left_more, map_device, map_ok}
use Rattle.occheck_script.proofs.held.hold_behind.Goals as goal

pub returns-in-Ok-clause-held : goal.returns-in-Ok-clause-held
returns-in-Ok-clause-held g c =
    map_ok c.write_enough.result c.write_enough.ensures.held
    (λ k. λ before all h. k before (all ++ c.args.answer.items) (subst (λ (x : List ℕ). Left before (g.W.ByteOut.written c.args.writer.now) x (all ++ c.args.answer.items)) (sym c.in-Ok.ensures.ok) (left_more before _ _ all c.args.answer.items h)))

pub returns-in-Ok-clause-halted : goal.returns-in-Ok-clause-halted
returns-in-Ok-clause-halted g c =
    map_device c.write_enough.result _ c.write_enough.ensures.failed c.write_enough.ensures.front
    (λ k. λ before all h. k before (all ++ c.args.answer.items) (subst (λ (x : List ℕ). Left before (g.W.ByteOut.written c.args.writer.now) x (all ++ c.args.answer.items)) (sym c.in-Ok.ensures.ok) (left_more before _ _ all c.args.answer.items h)))
