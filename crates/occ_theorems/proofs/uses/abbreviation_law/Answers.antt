use Rattle.occ_theorems.proofs.Reporting.{line_law as reported}
use Rattle.occ_theorems.proofs.uses.abbreviation_law.Goals as goal

pub returns : goal.returns
returns c = reported
