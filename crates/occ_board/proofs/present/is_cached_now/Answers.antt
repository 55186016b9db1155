use Rattle.std.proofs.Common.{subst, sym}
use Rattle.occ_board.proofs.Revisions.{reported_cached}
use Rattle.occ_board.proofs.present.is_cached_now.Goals as goal
use Rattle.occ_board.specs.inside.Revisions.{AreGivenByRevision}
use Rattle.occ_check.specs.Input.{Input}

pub is_present-requires-clause-reported : goal.is_present-requires-clause-reported
is_present-requires-clause-reported c _ =
    subst (λ (i : Input). AreGivenByRevision c.args.graph.now i.reads) (sym c.job.ensures)
    (reported_cached c.args.graph.now c.args.cached.now c.args.unit c.in-Some.outcome.now c.requires.reported (sym c.in-Some.ensures))
