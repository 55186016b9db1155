use Rattle.occ_forms.proofs.Lines.{no_empty}
use Rattle.occ_forms.proofs.construct.selection.Goals as goal

pub returns-in-Some-alone-clause-selected : goal.returns-in-Some-alone-clause-selected
returns-in-Some-alone-clause-selected c x e = no_empty _ _ _ x c.in-Some.ensures c.in-Some-alone.ensures.1 e
