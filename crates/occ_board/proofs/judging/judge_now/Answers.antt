use Rattle.occ_board.proofs.Judged.{acceptable}
use Rattle.occ_board.proofs.judging.judge_now.Goals as goal

pub returns-else-is_repeated-clause-acceptable : goal.returns-else-is_repeated-clause-acceptable
returns-else-is_repeated-clause-acceptable c = λ e.
    acceptable c.args.graph.now c.args.cached.now c.args.job.now c.used.result.now c.unit.result c.is_repeated.result c.unit.ensures.input c.used.ensures c.unit.ensures.value c.requires.now c.in-None.ensures c.if-is_repeated.ensures
    c.reads_law.ensures.alone c.reads_law.ensures.itself
