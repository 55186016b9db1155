use Rattle.occ_board.proofs.Stands.{rested}
use Rattle.occ_board.proofs.taking.job_now.Goals as goal

pub units_now-requires : goal.units_now-requires
units_now-requires c = record { rested = rested c.args.graph.now c.args.cached.now c.args.unit c.uses_near.result.now c.uses_near.ensures c.requires.rested }
