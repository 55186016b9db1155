use Rattle.occ_board.proofs.Stands.{same_inputs}
use Rattle.occ_board.proofs.caching.is_job.Goals as goal

pub returns : goal.returns
returns c = same_inputs c.is_same.result c.args.one.now c.args.other.now c.is_same.ensures.0 c.is_same.ensures.1
