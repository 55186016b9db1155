use Rattle.std.proofs.Common.{rules}
use Rattle.occ_types.proofs.Lists.{zip_more}
use Rattle.occ_types.proofs.comparison.all_same.Goals as goal

pub loop-i-preserved : goal.loop-i-preserved
loop-i-preserved g c = zip_more g.T.Same.is_same c.as_slice-a.result.now c.as_slice-b.result.now c.loop-i.i c.index-a-i.result c.index-b-i.result (search rules) (search rules) (search rules) (search rules) c.loop-i.invariant (search rules)
