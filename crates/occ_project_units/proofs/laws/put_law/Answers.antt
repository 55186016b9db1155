use Rattle.occ_project_units.proofs.Putting.{file_put, put_rises, spelled_put}
use Rattle.occ_project_units.proofs.laws.put_law.Goals as goal

pub returns-clause-in_order : goal.returns-clause-in_order
returns-clause-in_order c = put_rises

pub returns-clause-files : goal.returns-clause-files
returns-clause-files c = file_put

pub returns-clause-spelled : goal.returns-clause-spelled
returns-clause-spelled c = spelled_put
