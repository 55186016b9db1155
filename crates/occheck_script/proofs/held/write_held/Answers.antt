use Rattle.std.proofs.Common.{List, ℕ, subst, sym}
use Rattle.occheck_script.specs.Devices.{Appends, AppendsFront}
use Rattle.occheck_script.specs.inside.Going.{Left}
use Rattle.occheck_script.proofs.Left.{left_written, rest_front}
use Rattle.occheck_script.proofs.held.write_held.Goals as goal

pub returns-in-Ok-clause-held : goal.returns-in-Ok-clause-held
returns-in-Ok-clause-held g c = λ before all h.
    subst (λ (x : List ℕ). Left before (g.W.ByteOut.written c.write_all.new.writer) x all) (sym c.clear.ensures.items)
    (left_written before _ _ _ all (subst (λ (x : List ℕ). Appends (g.W.ByteOut.written c.args.writer.now) (g.W.ByteOut.written c.write_all.new.writer) x) c.as_slice.ensures.value c.in-Ok.ensures.ok) h)

pub returns-in-Err-clause-front : goal.returns-in-Err-clause-front
returns-in-Err-clause-front g c = λ before all h.
    rest_front before _ _ _ all (subst (λ (x : List ℕ). AppendsFront (g.W.ByteOut.written c.args.writer.now) (g.W.ByteOut.written c.write_all.new.writer) x) c.as_slice.ensures.value c.in-Err.ensures.front) h
