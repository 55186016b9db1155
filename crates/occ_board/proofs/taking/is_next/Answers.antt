use Rattle.std.proofs.Common.{sym}
use Rattle.occ_board.proofs.Nexts.{next_by, next_waits, rested_by}
use Rattle.occ_board.proofs.taking.is_next.Goals as goal

pub returns-then-not-is_ready : goal.returns-then-not-is_ready
returns-then-not-is_ready c =
    sym (next_waits c.args.graph.now c.args.cached.now c.args.handed.now c.args.flags.now c.args.index c.args.file.now c.requires.project c.requires.flags c.requires.file (sym c.if-not-is_ready.ensures))

pub is_handed-requires : goal.is_handed-requires
is_handed-requires c =
    rested_by c.args.graph.now c.args.cached.now c.args.handed.now c.args.flags.now c.args.index c.args.file.now c.requires.project c.requires.flags c.requires.file (sym c.if-not-is_ready.ensures)

pub returns : goal.returns
returns c =
    next_by c.args.graph.now c.args.cached.now c.args.handed.now c.args.flags.now c.args.index c.args.file.now c.requires.project c.requires.flags c.requires.file c.is_handed.result
    (sym c.if-not-is_ready.ensures) c.is_handed.ensures
