use Rattle.std.proofs.Common.{rules}
use Rattle.occ_protocol.proofs.Primitives.{written_rules}
use Rattle.occ_protocol.proofs.rows.timer_rows.Goals as goal

pub returns-clause-int : goal.returns-clause-int
returns-clause-int c = search (rules, written_rules)

pub returns-clause-byte : goal.returns-clause-byte
returns-clause-byte c = search (rules, written_rules)

pub returns-clause-received : goal.returns-clause-received
returns-clause-received c = search (rules, written_rules)
