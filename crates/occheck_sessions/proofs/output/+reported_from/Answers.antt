use Rattle.std.proofs.Common.{◌∙◌, ◌+◌, ◌++◌, ℕ, List, ap, subst}
use Rattle.occheck_commands.specs.Script.{Script}
use Rattle.occheck_sessions.specs.Output.{AreReading, AreReported}
use Rattle.occheck_sessions.proofs.Appended.{Appended, more_reported}
use Rattle.occheck_sessions.proofs.Readers.{if_ok}
use Rattle.occheck_sessions.proofs.output.+reported_from.Goals as goal

pub returns-in_ok-text-in-Some-Some : goal.returns-in_ok-text-in-Some-Some
returns-in_ok-text-in-Some-Some t c = λ read r.
    let both = subst (λ (ss : List Script). AreReading read ss) c.in-Some-Some.ensures.cases.0 r in
    if_ok (λ all. Appended c.in_ok-text-in-Some-Some.text.items all.items (AreReported read c.args.entries.now (c.args.session + 1) c.in-Some-Some.scripts.now))
    (λ all. Appended c.args.before.items all.items (AreReported read c.args.entries.now c.args.session c.args.scripts.now)) c.reported_from.result
    (λ all h. more_reported read c.args.entries.now c.args.session c.args.scripts.now c.in-Some-Some.scripts.now c.in-Some-Some.script.now c.args.before.items c.extend_from_slice.new.self.items c.in_ok-text-in-Some-Some.text.items all.items c.in-Some-Some.ensures.cases.0
    (c.in_ok-extend_from_slice-in-Some-Some.ensures.items ∙ ap (λ (x : List ℕ). c.args.before.items ++ x) (c.as_slice.ensures.value ∙ c.in_ok-head-in-Some-Some.ensures)) (c.in_ok-text-in-Some-Some.ensures read both.0) h)
    (c.reported_from.ensures read both.1)
