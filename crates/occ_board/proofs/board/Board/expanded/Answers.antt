use Rattle.std.proofs.Common.{◌≡◌, arith, ap, length}
use Rattle.occ_board.proofs.Readers.{few_files}
use Rattle.occ_board.proofs.board.Board.expanded.Goals as goal
use Rattle.occ_board.specs.Journal.{replay}
use Rattle.occ_project.specs.declared.reads.Read.{Read}

pub count_expanded-requires : goal.count_expanded-requires
count_expanded-requires c =
    let fewer = few_files c.self.inside.base c.self.inside.journal.items c.self.invariant.0.based in
    let same : length c.self.inside.graph ≡ length (replay c.self.inside.base c.self.inside.journal.items) = ap (length {A = Read}) c.self.invariant.0.files_are in
    let few = c.self.invariant.0.few in
    omega (arith, fewer, same, few)
