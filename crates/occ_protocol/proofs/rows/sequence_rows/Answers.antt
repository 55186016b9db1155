use Rattle.std.proofs.Common.{rules}
use Rattle.occ_protocol.proofs.Primitives.{written_rules}
use Rattle.occ_protocol.proofs.rows.sequence_rows.Goals as goal

pub returns-clause-good : goal.returns-clause-good
returns-clause-good c = search (rules, written_rules)

pub returns-clause-truth : goal.returns-clause-truth
returns-clause-truth c = search (rules, written_rules)

pub returns-clause-faulty : goal.returns-clause-faulty
returns-clause-faulty c = search (rules, written_rules)

pub returns-clause-beside_faulty : goal.returns-clause-beside_faulty
returns-clause-beside_faulty c = search (rules, written_rules)

pub returns-clause-counted : goal.returns-clause-counted
returns-clause-counted c = search (rules, written_rules)

pub returns-clause-named : goal.returns-clause-named
returns-clause-named c = search (rules, written_rules)
