use Rattle.std.proofs.Common.{◌<◌, ◌^◌, arith, subst}
use Rattle.occ_board.proofs.board.Board.entries.Goals as goal
use Rattle.occ_board.specs.Journal.{last_number}
use Rattle.occ_board.specs.Machine.{State, number_of}

pub returns-clause-few : goal.returns-clause-few
returns-clause-few c =
    let most = c.self.invariant.0.few in
    let few : last_number c.self.inside.base c.self.inside.journal.items < 2 ^ 32 = omega (arith, most) in
    subst (λ (s : State). number_of s < 2 ^ 32) c.self.view_is few
