use Rattle.std.proofs.Common.{rules}
use Rattle.occ_types.proofs.Lists.{reports_same_set, reports_no_set}
use Rattle.occ_types.proofs.comparison.same_uses.Goals as goal

pub returns-then-are_among : goal.returns-then-are_among
returns-then-are_among c = reports_same_set c.are_among-then-are_among.result c.args.a.now c.args.b.now (search rules) c.are_among-then-are_among.ensures

pub returns-else-are_among : goal.returns-else-are_among
returns-else-are_among c = reports_no_set c.are_among.result c.args.a.now c.args.b.now (search rules) c.are_among.ensures
