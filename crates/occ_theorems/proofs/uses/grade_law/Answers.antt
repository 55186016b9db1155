use Rattle.occ_theorems.proofs.Alone.{checks_told, errors_told}
use Rattle.occ_theorems.proofs.uses.grade_law.Goals as goal

pub returns : goal.returns
returns c = record { errors = errors_told; checks = checks_told }
