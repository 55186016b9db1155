use Rattle.std.proofs.Common.{◌∙◌, ap, false, length}
use Rattle.occ_board.proofs.Marked.{set_as_long, unset_more}
use Rattle.occ_board.proofs.flags.unflag_all.Goals as goal

pub loop-index-preserved : goal.loop-index-preserved
loop-index-preserved c = (
  ap length c.unset.ensures ∙ set_as_long c.loop-index.flags c.loop-index.index false ∙ c.loop-index.invariant.0,
  unset_more c.loop-index.flags c.unset.new.self c.loop-index.index c.loop-index.invariant.1 c.unset.ensures,
)
