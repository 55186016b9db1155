use Rattle.occ_board.proofs.touching.settle_others.Goals as goal
use Rattle.occ_project_units.proofs.Finding.{index_within}

pub is_used_by_few-requires : goal.is_used_by_few-requires
is_used_by_few-requires c = index_within c.args.name c.args.graph.now c.args.index c.requires.index

pub touched_at-requires : goal.touched_at-requires
touched_at-requires c = index_within c.args.name c.args.graph.now c.args.index c.requires.index
