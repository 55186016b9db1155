use Rattle.std.proofs.Common.{◌≡◌, ◌∙◌, ℕ, List, ◌++◌, IfOk, Option, Some, None, ap, codes, subst, sym}
use Rattle.std.specs.Option.{is_some}
use Rattle.occ_board.specs.Machine.{Answer, take_answer}
use Rattle.occ_board.specs.Rules.{Input}
use Rattle.occheck_script.specs.Machine.{with_line_end}
use Rattle.occheck_script.proofs.Holding.{always, busy_after, busy_text, free_after, free_text}
use Rattle.occheck_script.proofs.desk.Desk.take.Goals as goal

job_is : (a b : Option Input) → Answer.Job a ≡ Answer.Job b → b ≡ a
job_is a b h = cc

pub returns-then-is_some-clause-answered : goal.returns-then-is_some-clause-answered
returns-then-is_some-clause-answered c = λ read. subst (λ (t : List ℕ). IfOk c.line.result (λ bytes. bytes.items ≡ t)) (sym (busy_text c.args.worker c.args.self.now.held (take_answer c.args.self.now.board) (c.if-is_some.ensures ∙ ap is_some c.place_of.ensures))) c.line.ensures

pub returns-then-is_some-clause-after : goal.returns-then-is_some-clause-after
returns-then-is_some-clause-after c = λ read. always _ _ (busy_after c.args.worker c.args.self.now (c.if-is_some.ensures ∙ ap is_some c.place_of.ensures))

pub returns-in_default-clause-answered : goal.returns-in_default-clause-answered
returns-in_default-clause-answered c = λ read.
    subst (λ (t : List ℕ). IfOk c.line-in_default.result (λ bytes. bytes.items ≡ t))
    (sym (free_text c.args.worker c.args.self.now.held (take_answer c.args.self.now.board) None (c.if-is_some.ensures ∙ ap is_some c.place_of.ensures) (job_is _ _ c.in_ok-job.ensures.answered ∙ c.in_default.is))) c.line-in_default.ensures

pub returns-clause-answered : goal.returns-clause-answered
returns-clause-answered c = λ read.
    c.in_ok-answer.ensures ∙ ap (λ (n : List ℕ). with_line_end (codes "job " ++ n)) (c.as_bytes.ensures.value ∙ c.unit.ensures.value)
    ∙ sym (free_text c.args.worker c.args.self.now.held (take_answer c.args.self.now.board) (Some c.in-Some.job) (c.if-is_some.ensures ∙ ap is_some c.place_of.ensures) (job_is _ _ c.in_ok-job.ensures.answered ∙ c.in-Some.is))

pub returns-clause-after : goal.returns-clause-after
returns-clause-after c = λ read.
    free_after c.args.worker c.args.self.now c.take.new.self c.push.new.self c.in-Some.job (c.if-is_some.ensures ∙ ap is_some c.place_of.ensures) c.in_ok-job.ensures.after (job_is _ _ c.in_ok-job.ensures.answered ∙ c.in-Some.is) c.in_ok-push.ensures.ok
