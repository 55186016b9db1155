use Rattle.occ_has_type.proofs.Worked.{called, character, subscripted, sum, three_bytes, truth_sum}
use Rattle.occ_has_type.proofs.laws.worked_law.Goals as goal

pub returns-clause-sum : goal.returns-clause-sum
returns-clause-sum c = sum

pub returns-clause-character : goal.returns-clause-character
returns-clause-character c = character

pub returns-clause-table : goal.returns-clause-table
returns-clause-table c = three_bytes

pub returns-clause-subscript : goal.returns-clause-subscript
returns-clause-subscript c = subscripted

pub returns-clause-call : goal.returns-clause-call
returns-clause-call c = called

pub returns-clause-none : goal.returns-clause-none
returns-clause-none c = truth_sum
