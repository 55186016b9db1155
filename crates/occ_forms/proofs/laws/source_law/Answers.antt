use Rattle.occ_forms.proofs.OneSource.{one_prepared}
use Rattle.occ_forms.proofs.laws.source_law.Goals as goal

pub returns : goal.returns
returns c = one_prepared c.one_form_law.ensures c.lines_law.ensures.one
