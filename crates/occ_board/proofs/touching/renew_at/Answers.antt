use Rattle.occ_board.proofs.touching.renew_at.Goals as goal
use Rattle.occ_project_units.proofs.Finding.{index_within}

pub readers-requires : goal.readers-requires
readers-requires c = index_within c.args.file.name c.args.graph.now c.args.index c.requires.index
