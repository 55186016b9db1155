use Rattle.std.proofs.Common.{rules}
use Rattle.occ_protocol.proofs.Primitives.{written_rules}
use Rattle.occ_protocol.proofs.rows.counted_rows.Goals as goal

pub returns-clause-good : goal.returns-clause-good
returns-clause-good c = search (rules, written_rules)

pub returns-clause-open : goal.returns-clause-open
returns-clause-open c = search (rules, written_rules)

pub returns-clause-values : goal.returns-clause-values
returns-clause-values c = search (rules, written_rules)
