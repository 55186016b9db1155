use Rattle.occ_theorems.proofs.Exporting.{last_of_name, one_interface, uses_ordered}
use Rattle.occ_theorems.proofs.types.export_law.Goals as goal

pub returns : goal.returns
returns c = record { last = last_of_name; ordered = uses_ordered; one = one_interface }
