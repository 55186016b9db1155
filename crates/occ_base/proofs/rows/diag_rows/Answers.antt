use Rattle.std.proofs.Common.{refl}
use Rattle.std.specs.Fmt.{digits}
use Rattle.occ_base.proofs.rows.diag_rows.Goals as goal

pub returns-clause-named : goal.returns-clause-named
unfolding digits
returns-clause-named c = refl

pub returns-clause-nameless : goal.returns-clause-nameless
unfolding digits
returns-clause-nameless c = refl

pub returns-clause-check : goal.returns-clause-check
unfolding digits
returns-clause-check c = refl
