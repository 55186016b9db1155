use Rattle.std.proofs.Common.{List, subst, sym}
use Rattle.occ_board.proofs.Nexts.{still_passed}
use Rattle.occ_board.proofs.board.Board.take.Goals as goal
use Rattle.occ_board.specs.inside.Ready.{NoneIsNext}
use Rattle.occ_check.specs.Input.{Input}

pub invariant_of-self-2 : goal.invariant_of-self-2
invariant_of-self-2 c = (
  c.self.invariant.0,
  c.self.invariant.1,
  c.self.invariant.2,
  subst (λ (hs : List Input). NoneIsNext c.self.inside.graph c.self.inside.cached hs c.self.inside.passed) (sym c.in_ok-push.ensures.items)
      (still_passed c.self.inside.graph c.self.inside.cached c.self.inside.handed.items c.in_ok-copied_job.field-0 c.self.inside.passed c.self.invariant.3),
)
