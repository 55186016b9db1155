use Rattle.std.proofs.Common.{◌∙◌, ℕ, List, subst, sym, take, arith}
use Rattle.occheck_sessions.specs.Sessions.{IsReportAnswer, edits_of}
use Rattle.occheck_sessions.proofs.Told.{report_is}
use Rattle.occheck_sessions.proofs.answering.reported.Goals as goal

pub returns-in_ok-text-in-Reported-clause-text : goal.returns-in_ok-text-in-Reported-clause-text
returns-in_ok-text-in-Reported-clause-text c =
    subst (λ (text : List ℕ). IsReportAnswer c.args.entries.now c.args.session (edits_of c.args.session (take c.args.last c.args.entries.now)) text) (sym (c.in_ok-text-in-Reported.ensures.items ∙ c.as_slice.ensures.value))
    (report_is c.args.entries.now c.args.session c.args.last c.args.said.now c.in-Reported.told c.in-Reported.is c.requires.told (omega (arith, c.if-told-last.false)))
