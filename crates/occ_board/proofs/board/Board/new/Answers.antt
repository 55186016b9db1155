use Rattle.std.proofs.Common.{refl, rules}
use Rattle.occ_board.proofs.Begun.{begins}
use Rattle.occ_board.proofs.Looked.{new_verified}
use Rattle.occ_board.proofs.Nexts.{none_passed}
use Rattle.occ_board.proofs.Waits.{none_awaited}
use Rattle.occ_board.proofs.board.Board.new.Goals as goal

pub invariant_of-result : goal.invariant_of-result
invariant_of-result c = (begins _ _ _ _ _ (search rules) (search rules) (search rules) (search rules) (search rules) c.done_law.ensures.done, none_awaited _ _ _ _ (search rules), new_verified _ _ _ (search rules), none_passed _ _ _ _ refl)
