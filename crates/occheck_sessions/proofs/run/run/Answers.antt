use Rattle.occheck_sessions.proofs.Written.{run_reported}
use Rattle.occheck_sessions.proofs.run.run.Goals as goal

pub returns-in-Ok-clause-announced : goal.returns-in-Ok-clause-announced
returns-in-Ok-clause-announced g c = λ read r.
    run_reported read c.args.scripts.now c.in-Ok.output.text.items c.in-Ok.output.errors (g.W.ByteOut.written c.args.writer.now) (g.W.ByteOut.written c.write_output.new.writer) c.write_output.result (c.in-Ok.ensures read r) c.write_output.ensures.announced
