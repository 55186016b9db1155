use Rattle.std.proofs.Common.{sym, subst}
use Rattle.occ_board.proofs.Looked.{verified_cached}
use Rattle.occ_board.proofs.verified.is_current.Goals as goal
use Rattle.occ_project_units.specs.Project.{IsProject}

pub returns-then-is_flagged : goal.returns-then-is_flagged
returns-then-is_flagged c =
    let project : IsProject c.args.graph.now = subst IsProject c.project.ensures c.files-files.ensures.in_order in
    sym (verified_cached c.args.graph.now c.args.cached.now c.args.verified.now c.args.unit c.args.index c.requires.verified c.requires.index (sym c.if-is_flagged.ensures) (c.verified_law.ensures.looked c.args.graph.now c.args.cached.now c.args.unit project c.requires.rested))
