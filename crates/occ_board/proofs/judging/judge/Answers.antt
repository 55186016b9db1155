use Rattle.std.proofs.Common.{refl}
use Rattle.occ_board.proofs.Judged.{all_now, never_accepted}
use Rattle.occ_board.proofs.judging.judge.Goals as goal

pub judge_now-requires : goal.judge_now-requires
judge_now-requires c = record { flags = c.requires; now = all_now c.args.graph.now c.project.result.now c.args.job.now.reads c.reads.result.now c.as_slice.result.now c.project.ensures c.as_slice.ensures c.reads.ensures (c.in-None.ensures.now refl) }

pub returns-in-Some-clause-acceptable : goal.returns-in-Some-clause-acceptable
returns-in-Some-clause-acceptable c = λ e. absurd (never_accepted c.project.result.now c.args.accepted c.as_slice.result.now c.in-Some.verdict c.in-Some.ensures.value e)
