use Rattle.std.proofs.Common.{rules, sym, ◌∙◌}
use Rattle.occ_board.proofs.Indices.{placed, within}
use Rattle.occ_board.proofs.Settled.{file_rested, step_closed, step_is, step_waits}
use Rattle.occ_board.proofs.flags.is_file_done.Goals as goal

pub are_rests_flagged-requires : goal.are_rests_flagged-requires
are_rests_flagged-requires c = within c.args.graph.now c.args.index c.args.file.now c.requires.file

pub is_current-requires-clause-index : goal.is_current-requires-clause-index
is_current-requires-clause-index c = placed c.args.graph.now c.args.index c.args.file.now c.requires.project c.requires.file

pub is_current-requires-clause-rested : goal.is_current-requires-clause-rested
is_current-requires-clause-rested c = file_rested c.args.graph.now c.args.cached.now c.args.flags.now c.args.index c.args.file.now c.requires.file c.requires.sound (sym c.if-not-are_rests_flagged.ensures)

pub returns-then-is_none : goal.returns-then-is_none
returns-then-is_none c = step_closed c.args.graph.now c.args.cached.now c.args.flags.now c.args.index c.args.file.now c.requires.project c.requires.file (search rules)

pub returns-then-not-are_rests_flagged : goal.returns-then-not-are_rests_flagged
returns-then-not-are_rests_flagged c = step_waits c.args.graph.now c.args.cached.now c.args.flags.now c.args.index c.args.file.now c.requires.file (sym c.if-not-are_rests_flagged.ensures)

pub returns : goal.returns
returns c =
    c.is_current.ensures
    ∙ step_is c.args.graph.now c.args.cached.now c.args.flags.now c.args.index c.args.file.now c.requires.project c.requires.file (search rules) (sym c.if-not-are_rests_flagged.ensures)
