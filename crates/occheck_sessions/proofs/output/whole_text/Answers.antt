use Rattle.std.proofs.Common.{◌≡◌, ◌∙◌, ◌++◌, ℕ, true, List, ap, length, rules, sym}
use Rattle.std.specs.List.{list_all}
use Rattle.occheck_sessions.specs.Output.{is_of_one}
use Rattle.occheck_sessions.proofs.Appended.{run_is}
use Rattle.occheck_sessions.proofs.output.whole_text.Goals as goal

pub returns-clause-run : goal.returns-clause-run
returns-clause-run c = λ read r.
    let within : list_all (is_of_one (length c.args.scripts.now)) c.args.ended.now.entries ≡ true = search rules in
    run_is read c.args.scripts.now c.args.ended.now.base c.args.ended.now.entries c.entries-entries.result.now c.args.ended.now.rows c.report.result.now c.new.result.items c.in_ok-text.text.items c.in_ok-report.report.items c.extend_from_slice.new.self.items c.requires.fine (sym c.base.ensures.base ∙ c.is_first.ensures c.if-not-is_first.false) c.report.ensures.known c.entries-entries.ensures.entries within c.new.ensures.items
    (c.in_ok-text.ensures read r) c.report.ensures.rows c.in_ok-report.ensures (c.in_ok-extend_from_slice.ensures.items ∙ ap (λ (x : List ℕ). c.in_ok-text.text.items ++ x) c.as_slice.ensures.value)
