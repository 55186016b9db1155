use Rattle.occ_forms.proofs.Groups.{group_apart, group_begins}
use Rattle.occ_forms.proofs.formals.formals.Goals as goal

pub closed_list-requires-clause-apart : goal.closed_list-requires-clause-apart
closed_list-requires-clause-apart c = group_apart

pub closed_list-requires-clause-begins : goal.closed_list-requires-clause-begins
closed_list-requires-clause-begins c = group_begins
