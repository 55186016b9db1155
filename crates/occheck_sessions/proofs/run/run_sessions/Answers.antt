use Rattle.std.proofs.Common.{◌≡◌, ◌∙◌, List, map, subst}
use Rattle.occheck_commands.specs.Script.{Script, script_of}
use Rattle.occheck_sessions.specs.Output.{AreReading, IsWritten}
use Rattle.occheck_sessions.proofs.run.run_sessions.Goals as goal

pub returns-in-Ok-clause-announced : goal.returns-in-Ok-clause-announced
returns-in-Ok-clause-announced g c = λ bytes known read r.
    let same : c.as_slice.result.now ≡ map script_of bytes = c.as_slice.ensures.value ∙ c.in-Ok.ensures.says bytes known in
    subst (λ (scripts : List Script). AreReading read scripts → IsWritten read scripts (g.W.ByteOut.written c.args.writer.now) (g.W.ByteOut.written c.run.new.writer) c.run.result) same (c.run.ensures.announced read) r
