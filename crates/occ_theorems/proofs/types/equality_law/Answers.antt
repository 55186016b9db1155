use Rattle.occ_theorems.proofs.Equivalences.{equality, same_interface}
use Rattle.occ_theorems.proofs.types.equality_law.Goals as goal

pub returns-clause-types : goal.returns-clause-types
returns-clause-types c = equality

pub returns-clause-protocols : goal.returns-clause-protocols
returns-clause-protocols c = equality

pub returns-clause-interfaces : goal.returns-clause-interfaces
returns-clause-interfaces c = same_interface
