use Rattle.std.proofs.Common.{◌∙◌, sym}
use Rattle.occ_forms_expressions.proofs.Tailed.{ended_found, ended_only}
use Rattle.occ_forms_expressions.proofs.tail.after_first.Goals as goal

pub returns-then-ends_run-clause-found : goal.returns-then-ends_run-clause-found
returns-then-ends_run-clause-found g c = ended_found _ _

pub returns-then-ends_run-clause-only : goal.returns-then-ends_run-clause-only
returns-then-ends_run-clause-only g c = ended_only _ _ (sym c.ends_run.ensures ∙ c.if-ends_run.true)
