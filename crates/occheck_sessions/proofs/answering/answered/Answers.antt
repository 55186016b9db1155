use Rattle.std.proofs.Common.{IfOk, subst, sym, take}
use Rattle.occheck_commands.specs.Left.{meant}
use Rattle.occheck_commands.specs.declared.command.Command.{Command}
use Rattle.occheck_script.specs.Machine.{ReadsCommand}
use Rattle.occheck_sessions.specs.Sessions.{IsAnswer, edits_of}
use Rattle.occheck_sessions.proofs.answering.answered.Goals as goal

pub returns-in-Open-clause-announced : goal.returns-in-Open-clause-announced
returns-in-Open-clause-announced c = λ read.
    subst (λ (command : Command). ReadsCommand read (meant command) → IfOk c.opened.result (λ answer. IsAnswer read c.args.entries.now c.args.session (edits_of c.args.session (take c.args.last c.args.entries.now)) (meant command) answer.text.items (edits_of c.args.session (take answer.last c.args.entries.now))))
    (sym c.in-Open.is) (λ spells. c.opened.ensures.announced read spells)

pub returns-in-Change-clause-announced : goal.returns-in-Change-clause-announced
returns-in-Change-clause-announced c = λ read.
    subst (λ (command : Command). ReadsCommand read (meant command) → IfOk c.changed.result (λ answer. IsAnswer read c.args.entries.now c.args.session (edits_of c.args.session (take c.args.last c.args.entries.now)) (meant command) answer.text.items (edits_of c.args.session (take answer.last c.args.entries.now))))
    (sym c.in-Change.is) (λ spells. c.changed.ensures.announced read spells)
