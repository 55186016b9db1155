use Rattle.occ_board.proofs.Stands.{cached_is}
use Rattle.occ_board.proofs.laws.cached_law.Goals as goal

pub returns : goal.returns
returns c = λ files cached u h d. cached_is files cached u (c.done_law.ensures.done files cached u h) d
