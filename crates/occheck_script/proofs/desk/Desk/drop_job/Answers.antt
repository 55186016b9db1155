use Rattle.std.proofs.Common.{◌∙◌, Option, ap, sym}
use Rattle.occ_board.specs.Rules.{Input}
use Rattle.occheck_script.specs.Machine.{after_drop}
use Rattle.occheck_script.proofs.Holding.{always, none_held, same_desk}
use Rattle.occheck_script.proofs.desk.Desk.drop_job.Goals as goal

pub returns-in_default-clause-after : goal.returns-in_default-clause-after
returns-in_default-clause-after c = λ read.
    let none = none_held c.args.worker c.args.self.now c.release.result c.release.ensures.job c.in_default.is in
    always _ _ (same_desk c.args.worker c.args.self.now c.release.new.self none c.release.ensures.held c.release.ensures.board c.release.ensures.errors
    ∙ sym (ap (λ (o : Option Input). after_drop c.args.worker o c.args.self.now) none))
