use Rattle.std.proofs.Common.{IfErr, List, Option, ℕ, subst}
use Rattle.occheck_script.specs.inside.Going.{IsHalted, Left}
use Rattle.occheck_script.proofs.answering.carry_out.Goals as goal

pub returns-in-Ok-clause-halted : goal.returns-in-Ok-clause-halted
returns-in-Ok-clause-halted g c = λ read r.
    subst (λ (x : List ℕ). IfErr c.hold.result (λ ended. (before : Option (List ℕ)) (all : List ℕ) → Left before (g.W.ByteOut.written c.args.writer.now) c.args.held.now.items all → IsHalted before (g.W.ByteOut.written c.hold.new.writer) all x ended))
    (c.in-Ok.ensures.answered read r) c.hold.ensures.halted
