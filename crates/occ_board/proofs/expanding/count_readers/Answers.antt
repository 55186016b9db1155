use Rattle.std.proofs.Common.{◌≡◌, ◌∙◌, get_or, subst, sym}
use Rattle.occ_project.specs.declared.reads.Read.{Read}
use Rattle.occ_board.proofs.Readers.{readers_more}
use Rattle.occ_board.proofs.Shows.{at_most}
use Rattle.occ_board.proofs.expanding.count_readers.Goals as goal

pub loop-index-preserved : goal.loop-index-preserved
loop-index-preserved c = (
  c.counted-count.ensures
      ∙ readers_more c.args.graph.now c.files-file-items.result.now c.args.name c.loop-index.index c.get.result.now c.loop-index.count c.is_reader-is_one.result (c.files-file-items.ensures.files ∙ c.project.ensures) c.loop-index-test.true (subst (λ (file : Read). file ≡ get_or c.files-file-items.result.now c.loop-index.index file) (sym c.get.ensures) c.file-item.is) c.is_reader-is_one.ensures
      c.loop-index.invariant.0,
  at_most c.is_reader-is_one.result c.loop-index.count c.loop-index.index c.counted-count.result c.counted-count.ensures c.loop-index.invariant.1,
)
