use Rattle.std.specs.BTreeSet.{insert_key}
use Rattle.std.proofs.Common.{rules, ◌≡◌, ◌∙◌, List, ◌∷◌, ◌++◌, ap, replicate, sym}
use Rattle.occ_alias.proofs.Repeating.{always, checks_of_check, checks_of_error, errors_of_check, errors_of_error, on_ok}
use Rattle.occ_base.specs.Order.{diag_order}
use Rattle.occ_base.specs.declared.diag.Diag.{Diag}
use Rattle.occ_alias.proofs.grade.divide.Goals as goal

pub returns-in-Check-clause-errors : goal.returns-in-Check-clause-errors
returns-in-Check-clause-errors c = always c.push_run.result (sym (errors_of_check c.args.errors.now.keys c.args.run.diag c.args.run.more c.in-Check.is))

pub returns-in-Check-clause-checks : goal.returns-in-Check-clause-checks
returns-in-Check-clause-checks c =
    on_ok c.push_run.result
    (λ (e : c.push_run.new.self ≡ c.args.checks.now ++ c.args.run.diag ∷ replicate c.args.run.more c.args.run.diag).
    e ∙ ap (λ (ds : List Diag). c.args.checks.now ++ ds) (sym (checks_of_check c.args.run.diag c.args.run.more c.in-Check.is)))
    c.push_run.ensures

pub returns-in_ok-insert-in-Error-clause-errors : goal.returns-in_ok-insert-in-Error-clause-errors
returns-in_ok-insert-in-Error-clause-errors c =
    let put : c.insert.new.self.keys ≡ insert_key diag_order c.args.errors.now.keys c.args.run.diag = search rules in
    put ∙ sym (errors_of_error c.args.errors.now.keys c.args.run.diag c.args.run.more c.in-Error.is)

pub returns-in_ok-insert-in-Error-clause-checks : goal.returns-in_ok-insert-in-Error-clause-checks
returns-in_ok-insert-in-Error-clause-checks c = sym (checks_of_error c.args.checks.now c.args.run.diag c.args.run.more c.in-Error.is)
