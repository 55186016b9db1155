use Rattle.occ_board.proofs.board.only_source.Goals as goal

pub returns-clause-only : goal.returns-clause-only
returns-clause-only c = λ lines h. c.source_law.ensures c.args.source.text lines c.args.source.lines h c.lines-lines.ensures.prepared
