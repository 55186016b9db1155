use Rattle.std.proofs.Common.{rules, ◌∙◌}
use Rattle.occheck_script.proofs.Editing.{source_read}
use Rattle.occheck_script.proofs.edit.read_edit.Goals as goal

pub returns-in_ok-new-in-Ok-prepared-clause-file : goal.returns-in_ok-new-in-Ok-prepared-clause-file
returns-in_ok-new-in-Ok-prepared-clause-file c = λ read l. (
  c.in-Ok.ensures.named,
  c.in_ok-new-in-Ok-prepared.ensures ∙ source_read read _ _ c.in-Ok-prepared.ensures.text (c.in-Ok-prepared.ensures.only _ (l (search rules))),
)
