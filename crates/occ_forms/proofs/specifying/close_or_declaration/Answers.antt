use Rattle.std.proofs.Common.{sym, ◌∙◌}
use Rattle.occ_forms.proofs.Classes.{specified_no_close}
use Rattle.occ_forms.proofs.specifying.close_or_declaration.Goals as goal

pub returns-in-Some-clause-only : goal.returns-in-Some-clause-only
returns-in-Some-clause-only c x e = absurd (specified_no_close x (sym e ∙ c.in-Some.ensures.1))
