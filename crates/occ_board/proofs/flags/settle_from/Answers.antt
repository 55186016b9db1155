use Rattle.std.proofs.Common.{◌∙◌, ◌≡◌, Some, ap, rules, subst, sym}
use Rattle.occ_board.proofs.Settled.{are_flags}
use Rattle.occ_board.proofs.Spread.{full_else, full_from}
use Rattle.occ_board.proofs.flags.settle_from.Goals as goal
use Rattle.occ_project.specs.Reads.{index}
use Rattle.occ_project_units.proofs.Finding.{index_within}
use Rattle.occ_project_units.specs.Project.{IsProject}

pub returns-in_default-clause-flags : goal.returns-in_default-clause-flags
returns-in_default-clause-flags c =
    let project : IsProject c.args.graph.now = subst IsProject c.project.ensures c.files-files.ensures.in_order in
    let high = c.height_law.ensures c.args.graph.now project in
    are_flags c.args.graph.now c.args.cached.now (λ u. c.done_law.ensures.done c.args.graph.now c.args.cached.now u project) c.args.flags.now high.0 high.1 c.requires.sound
    (full_else c.args.graph.now c.args.cached.now project c.args.flags.now c.args.unit (search rules) c.requires.full)

pub spread-requires-clause-within : goal.spread-requires-clause-within
spread-requires-clause-within c =
    let at : index c.args.unit c.args.graph.now ≡ Some c.in-Some.index = sym (c.in-Some.ensures ∙ ap (index c.args.unit) c.project-2.ensures) in
    index_within c.args.unit c.args.graph.now c.in-Some.index at

pub returns-clause-flags : goal.returns-clause-flags
returns-clause-flags c =
    let project : IsProject c.args.graph.now = subst IsProject c.project.ensures c.files-files.ensures.in_order in
    let high = c.height_law.ensures c.args.graph.now project in
    let at : index c.args.unit c.args.graph.now ≡ Some c.in-Some.index = sym (c.in-Some.ensures ∙ ap (index c.args.unit) c.project-2.ensures) in
    are_flags c.args.graph.now c.args.cached.now (λ u. c.done_law.ensures.done c.args.graph.now c.args.cached.now u project) c.spread.new.flags high.0 high.1 c.spread.ensures.sound
    (full_from c.args.graph.now c.args.cached.now project c.args.flags.now c.spread.new.flags c.args.unit c.in-Some.index at c.requires.full c.spread.ensures.full)
