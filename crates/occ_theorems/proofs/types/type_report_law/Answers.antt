use Rattle.occ_theorems.proofs.Places.{reported_places}
use Rattle.occ_theorems.proofs.types.type_report_law.Goals as goal

pub returns : goal.returns
returns c = reported_places
