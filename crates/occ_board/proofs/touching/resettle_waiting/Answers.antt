use Rattle.std.proofs.Common.{◌≡◌, ◌∙◌, Bool, List, ap, false, get_or, rules, ℕ, subst, sym, true}
use Rattle.std.proofs.lemmas.Bool.{eqb-true}
use Rattle.occ_board.proofs.Waits.{by_mark, none_awaited, same_flags, stays_set}
use Rattle.occ_board.proofs.touching.resettle_waiting.Goals as goal
use Rattle.occ_board.specs.inside.Ready.{is_ready}
use Rattle.occ_project_graph.specs.Graph.{is_among}
use Rattle.occ_project_units.specs.Project.{IsProject}

pub begin_with-requires : goal.begin_with-requires
begin_with-requires c = λ p file lt e ready.
    let project : IsProject c.args.graph.now = subst IsProject c.project.ensures c.files-files.ensures.in_order in
    let same : c.resettle.new.flags ≡ c.args.flags.now =
    same_flags c.args.flags.now c.resettle.new.flags (c.requires.len ∙ sym c.resettle.ensures.len)
    (stays_set c.args.graph.now c.args.cached.now project c.args.flags.now c.resettle.new.flags c.requires.len c.requires.sound c.resettle.ensures.flags)
    (sym c.count.ensures ∙ eqb-true c.count.result c.count-count.result (search rules) ∙ c.count-count.ensures)
    in
    by_mark (get_or c.args.touched.now p false) (λ none. c.requires.awaited p file lt e none (subst (λ (fs : List Bool). is_ready c.args.graph.now fs p file ≡ true) (c.as_slice.ensures ∙ same) ready))
    (λ some. ap (λ (ws : List ℕ). is_among ws p) c.of_indices.ensures ∙ c.indices.ensures p ∙ some)

pub returns-else-count-clause-awaited : goal.returns-else-count-clause-awaited
returns-else-count-clause-awaited c = none_awaited c.args.graph.now c.resettle.new.flags _ _ c.forget.ensures
