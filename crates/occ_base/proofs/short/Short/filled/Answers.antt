use Rattle.occ_base.proofs.Zeros.{filled}
use Rattle.occ_base.proofs.short.Short.filled.Goals as goal

pub returns-clause-bytes : goal.returns-clause-bytes
returns-clause-bytes c =
    let a = c.self.invariant in
    filled c.self.inside.len c.self.inside.bytes _ _ _ c.self.view_is a.len a.whole a.zeros c.copy_from_slice.ensures.after c.split_at_mut-front.ensures.back
