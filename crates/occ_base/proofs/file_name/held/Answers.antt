use Rattle.occ_base.proofs.Filled.{filled}
use Rattle.occ_base.proofs.file_name.held.Goals as goal

pub invariant_of-result : goal.invariant_of-result
invariant_of-result c = filled _ _ _ c.copy_from_slice.ensures.after c.split_at_mut-front.ensures.back c.requires.short c.requires.named
