use Rattle.occ_lines.proofs.Strings.{gathered}
use Rattle.occ_lines.proofs.quoted.gather.Goals as goal

pub returns-clause-gathers : goal.returns-clause-gathers
returns-clause-gathers c = gathered _ _ _ _ c.rest.invariant.gathers (rw c.in_default.is at c.unit.ensures.value)
