use Rattle.std.proofs.Common.{rules}
use Rattle.occ_protocol.proofs.Primitives.{written_rules}
use Rattle.occ_protocol.proofs.rows.tag_rows.Goals as goal

pub returns-clause-good : goal.returns-clause-good
returns-clause-good c = search (rules, written_rules)

pub returns-clause-truth : goal.returns-clause-truth
returns-clause-truth c = search (rules, written_rules)

pub returns-clause-fewer : goal.returns-clause-fewer
returns-clause-fewer c = search (rules, written_rules)

pub returns-clause-faulty : goal.returns-clause-faulty
returns-clause-faulty c = search (rules, written_rules)

pub returns-clause-variant_items : goal.returns-clause-variant_items
returns-clause-variant_items c = search (rules, written_rules)
