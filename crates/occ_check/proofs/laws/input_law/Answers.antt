use Rattle.std.proofs.Common.{None, [], ap}
use Rattle.occ_check.proofs.Local.{is_local}
use Rattle.occ_check.proofs.laws.input_law.Goals as goal
use Rattle.occ_check.specs.Checks.{check_step, checked}
use Rattle.occ_check.specs.declared.checked.Checked.{Checked}

pub returns-clause-diags : goal.returns-clause-diags
unfolding checked
returns-clause-diags c = λ files u h. ap (λ (x : Checked). x.diags) (c.along_law.ensures files (check_step files) (record { diags = []; interface = None }) h (is_local files) u)

pub returns-clause-interface : goal.returns-clause-interface
unfolding checked
returns-clause-interface c = λ files u h. ap (λ (x : Checked). x.interface) (c.along_law.ensures files (check_step files) (record { diags = []; interface = None }) h (is_local files) u)
