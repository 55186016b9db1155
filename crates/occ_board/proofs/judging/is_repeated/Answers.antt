use Rattle.std.proofs.Common.{◌≡◌, ◌↔◌, true, subst}
use Rattle.occ_board.proofs.Stands.{cached_that}
use Rattle.occ_board.proofs.judging.is_repeated.Goals as goal
use Rattle.occ_check.specs.Input.{Input}

pub returns-in-Some : goal.returns-in-Some
returns-in-Some c =
    cached_that c.is_same.result c.args.cached.now c.args.job.now c.in-Some.outcome.now c.unit.result c.unit.ensures.value c.in-Some.ensures
    (subst (λ (i : Input). (c.is_same.result ≡ true) ↔ (i ≡ c.args.job.now)) c.job.ensures c.is_same.ensures)
