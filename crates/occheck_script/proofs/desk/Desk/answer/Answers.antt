use Rattle.std.proofs.Common.{◌≡◌, IfOk, OnOk, subst, sym}
use Rattle.occheck_commands.specs.Left.{meant}
use Rattle.occheck_commands.specs.declared.command.Command.{Command}
use Rattle.occheck_script.specs.Machine.{ReadsCommand, after, answer}
use Rattle.occheck_script.proofs.desk.Desk.answer.Goals as goal

pub returns-in-Open-clause-answered : goal.returns-in-Open-clause-answered
returns-in-Open-clause-answered c = λ read l.
    subst (λ (m : Command). IfOk c.open.result (λ bytes. bytes.items ≡ answer read c.args.self.now (meant m))) (sym c.in-Open.is) (c.open.ensures.answered read (subst (λ (m : Command). ReadsCommand read (meant m)) c.in-Open.is l))

pub returns-in-Open-clause-after : goal.returns-in-Open-clause-after
returns-in-Open-clause-after c = λ read l.
    subst (λ (m : Command). OnOk c.open.result (c.open.new.self ≡ after read c.args.self.now (meant m))) (sym c.in-Open.is) (c.open.ensures.after read (subst (λ (m : Command). ReadsCommand read (meant m)) c.in-Open.is l))

pub returns-in-Change-clause-answered : goal.returns-in-Change-clause-answered
returns-in-Change-clause-answered c = λ read l.
    subst (λ (m : Command). IfOk c.change.result (λ bytes. bytes.items ≡ answer read c.args.self.now (meant m))) (sym c.in-Change.is) (c.change.ensures.answered read (subst (λ (m : Command). ReadsCommand read (meant m)) c.in-Change.is l))

pub returns-in-Change-clause-after : goal.returns-in-Change-clause-after
returns-in-Change-clause-after c = λ read l.
    subst (λ (m : Command). OnOk c.change.result (c.change.new.self ≡ after read c.args.self.now (meant m))) (sym c.in-Change.is) (c.change.ensures.after read (subst (λ (m : Command). ReadsCommand read (meant m)) c.in-Change.is l))

pub returns-in-Remove-clause-answered : goal.returns-in-Remove-clause-answered
returns-in-Remove-clause-answered c = λ read l.
    subst (λ (m : Command). IfOk c.remove.result (λ bytes. bytes.items ≡ answer read c.args.self.now (meant m))) (sym c.in-Remove.is) (c.remove.ensures.answered read)

pub returns-in-Remove-clause-after : goal.returns-in-Remove-clause-after
returns-in-Remove-clause-after c = λ read l.
    subst (λ (m : Command). OnOk c.remove.result (c.remove.new.self ≡ after read c.args.self.now (meant m))) (sym c.in-Remove.is) (c.remove.ensures.after read)

pub returns-in-Take-clause-answered : goal.returns-in-Take-clause-answered
returns-in-Take-clause-answered c = λ read l.
    subst (λ (m : Command). IfOk c.take.result (λ bytes. bytes.items ≡ answer read c.args.self.now (meant m))) (sym c.in-Take.is) (c.take.ensures.answered read)

pub returns-in-Take-clause-after : goal.returns-in-Take-clause-after
returns-in-Take-clause-after c = λ read l.
    subst (λ (m : Command). OnOk c.take.result (c.take.new.self ≡ after read c.args.self.now (meant m))) (sym c.in-Take.is) (c.take.ensures.after read)

pub returns-in-Finish-clause-answered : goal.returns-in-Finish-clause-answered
returns-in-Finish-clause-answered c = λ read l.
    subst (λ (m : Command). IfOk c.finish.result (λ bytes. bytes.items ≡ answer read c.args.self.now (meant m))) (sym c.in-Finish.is) (c.finish.ensures.answered read)

pub returns-in-Finish-clause-after : goal.returns-in-Finish-clause-after
returns-in-Finish-clause-after c = λ read l.
    subst (λ (m : Command). OnOk c.finish.result (c.finish.new.self ≡ after read c.args.self.now (meant m))) (sym c.in-Finish.is) (c.finish.ensures.after read)

pub returns-in-Drop-clause-answered : goal.returns-in-Drop-clause-answered
returns-in-Drop-clause-answered c = λ read l.
    subst (λ (m : Command). IfOk c.drop_job.result (λ bytes. bytes.items ≡ answer read c.args.self.now (meant m))) (sym c.in-Drop.is) (c.drop_job.ensures.answered read)

pub returns-in-Drop-clause-after : goal.returns-in-Drop-clause-after
returns-in-Drop-clause-after c = λ read l.
    subst (λ (m : Command). OnOk c.drop_job.result (c.drop_job.new.self ≡ after read c.args.self.now (meant m))) (sym c.in-Drop.is) (c.drop_job.ensures.after read)

pub returns-in-Settle-clause-answered : goal.returns-in-Settle-clause-answered
returns-in-Settle-clause-answered c = λ read l.
    subst (λ (m : Command). IfOk c.settle.result (λ bytes. bytes.items ≡ answer read c.args.self.now (meant m))) (sym c.in-Settle.is) (c.settle.ensures.answered read)

pub returns-in-Settle-clause-after : goal.returns-in-Settle-clause-after
returns-in-Settle-clause-after c = λ read l.
    subst (λ (m : Command). OnOk c.settle.result (c.settle.new.self ≡ after read c.args.self.now (meant m))) (sym c.in-Settle.is) (c.settle.ensures.after read)

pub returns-in-Checkpoint-clause-answered : goal.returns-in-Checkpoint-clause-answered
returns-in-Checkpoint-clause-answered c = λ read l.
    subst (λ (m : Command). IfOk c.checkpoint.result (λ bytes. bytes.items ≡ answer read c.args.self.now (meant m))) (sym c.in-Checkpoint.is) (c.checkpoint.ensures.answered read)

pub returns-in-Checkpoint-clause-after : goal.returns-in-Checkpoint-clause-after
returns-in-Checkpoint-clause-after c = λ read l.
    subst (λ (m : Command). OnOk c.checkpoint.result (c.checkpoint.new.self ≡ after read c.args.self.now (meant m))) (sym c.in-Checkpoint.is) (c.checkpoint.ensures.after read)

pub returns-in-Report-clause-answered : goal.returns-in-Report-clause-answered
returns-in-Report-clause-answered c = λ read l.
    subst (λ (m : Command). IfOk c.report.result (λ bytes. bytes.items ≡ answer read c.args.self.now (meant m))) (sym c.in-Report.is) (c.report.ensures.answered read)

pub returns-in-Report-clause-after : goal.returns-in-Report-clause-after
returns-in-Report-clause-after c = λ read l.
    subst (λ (m : Command). OnOk c.report.result (c.report.new.self ≡ after read c.args.self.now (meant m))) (sym c.in-Report.is) (c.report.ensures.after read)
