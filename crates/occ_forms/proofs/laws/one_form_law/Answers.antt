use Rattle.occ_forms.proofs.OneForm.{one_form}
use Rattle.occ_forms.proofs.laws.one_form_law.Goals as goal

pub returns : goal.returns
returns c = one_form
