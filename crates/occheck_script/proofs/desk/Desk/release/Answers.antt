use Rattle.std.proofs.Common.{◌∙◌}
use Rattle.occheck_script.proofs.Holding.{no_job, removed, same_without, the_job}
use Rattle.occheck_script.proofs.desk.Desk.release.Goals as goal

pub returns-in_err-place-clause-job : goal.returns-in_err-place-clause-job
returns-in_err-place-clause-job c = c.from_residual.ensures ∙ no_job c.args.worker c.args.self.now.held c.in_err-place.ensures

pub returns-in_err-place-clause-held : goal.returns-in_err-place-clause-held
returns-in_err-place-clause-held c = same_without c.args.worker c.args.self.now.held c.in_err-place.ensures

pub returns-clause-job : goal.returns-clause-job
returns-clause-job c = the_job c.args.worker c.args.self.now.held c.in_ok-place.place c.remove.result c.in_ok-place.ensures c.remove.ensures.item

pub returns-clause-held : goal.returns-clause-held
returns-clause-held c = removed c.args.worker c.args.self.now.held c.in_ok-place.place c.remove.new.self c.in_ok-place.ensures c.remove.ensures.rest
