use Rattle.std.proofs.Common.{◌∙◌, ap, refl, take}
use Rattle.occ_board.proofs.Runs.{run_set}
use Rattle.occ_board.proofs.taking.is_run_set.Goals as goal

pub returns-clause-set : goal.returns-clause-set
returns-clause-set c = λ h p least most.
    run_set _ c.contains.result c.args.flags.now c.split_at-2.result.0.now c.args.from p c.contains.ensures.value refl h (c.split_at-2.ensures.front ∙ ap (take 64) c.split_at.ensures.back) c.split_at-2.ensures.front_len least most
