use Rattle.std.proofs.Common.{get_or, subst, sym, ◌≡◌, ◌∙◌}
use Rattle.occ_project.specs.declared.reads.Read.{Read}
use Rattle.occ_board.proofs.Shows.{flag_here}
use Rattle.occ_board.proofs.report.rows.Goals as goal
use Rattle.occ_project_units.specs.Project.{IsProject}

pub add_row-requires : goal.add_row-requires
add_row-requires c =
    c.is_flagged-done.ensures
    ∙ flag_here c.args.graph.now c.files-file-items.result.now c.args.cached.now c.args.flags.now c.loop-index.index c.get.result.now (subst IsProject (sym c.files-file-items.ensures.files) c.files-file-items.ensures.in_order) (c.files-file-items.ensures.files ∙ c.project.ensures) c.requires c.loop-index-test.true
    (subst (λ (file : Read). file ≡ get_or c.files-file-items.result.now c.loop-index.index file) (sym c.get.ensures) c.file-item.is)
