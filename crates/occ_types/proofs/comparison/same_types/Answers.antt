use Rattle.occ_types.proofs.Lists.{reports_equal}
use Rattle.occ_types.proofs.comparison.same_types.Goals as goal

pub returns : goal.returns
returns c = reports_equal c.all_same.result c.args.a.now c.args.b.now c.all_same.ensures
