use Rattle.std.proofs.Common.{subst, rules}
use Rattle.occ_board.proofs.Settled.{are_flags}
use Rattle.occ_board.proofs.flags.settle.Goals as goal
use Rattle.occ_project_units.specs.Project.{IsProject}

pub returns-clause-flags : goal.returns-clause-flags
returns-clause-flags c =
    let project : IsProject c.args.graph.now = subst IsProject c.project.ensures c.files-files.ensures.in_order in
    let high = c.height_law.ensures c.args.graph.now project in
    are_flags c.args.graph.now c.args.cached.now (λ u. c.done_law.ensures.done c.args.graph.now c.args.cached.now u project) c.pass.new.flags high.0 high.1 (search rules) (search rules)
