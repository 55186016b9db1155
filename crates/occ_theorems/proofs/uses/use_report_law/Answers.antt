use Rattle.occ_theorems.proofs.Standing.{place_law}
use Rattle.occ_theorems.proofs.uses.use_report_law.Goals as goal

pub returns : goal.returns
returns c = place_law
