use Rattle.std.proofs.Common.{◌∙◌, sym}
use Rattle.occ_forms_expressions.proofs.Following.{lone_name_found, lone_name_no_call, lone_name_only}
use Rattle.occ_forms_expressions.proofs.naming.plain_name.Goals as goal

pub returns-then-ends_run-clause-found : goal.returns-then-ends_run-clause-found
returns-then-ends_run-clause-found g c = lone_name_found _ _ _ c.new.ensures

pub returns-then-ends_run-clause-element : goal.returns-then-ends_run-clause-element
returns-then-ends_run-clause-element g c = lone_name_only _ _ _ c.new.ensures (sym c.ends_run.ensures ∙ c.if-ends_run.true)

pub returns-then-ends_run-clause-call : goal.returns-then-ends_run-clause-call
returns-then-ends_run-clause-call g c es z k ends e = absurd (lone_name_no_call _ (sym c.ends_run.ensures ∙ c.if-ends_run.true) es _ e)
