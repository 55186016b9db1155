use Rattle.std.proofs.Common.{arith, ◌∙◌, ◌≡◌, Bool, List, ℕ, Some, ap, false, get_or, inl, inr, rules, subst, sym, true}
use Rattle.occ_board.proofs.Indices.{name_there}
use Rattle.occ_board.proofs.Settled.{are_flags}
use Rattle.occ_board.proofs.Spread.{full_else, set_here}
use Rattle.occ_board.proofs.Waits.{awaited_more, full_or, none_awaited}
use Rattle.occ_board.proofs.flags.settle_cached.Goals as goal
use Rattle.occ_board.specs.Done.{done}
use Rattle.occ_project_graph.specs.Graph.{is_among}
use Rattle.occ_project.specs.Reads.{index}
use Rattle.occ_project_units.proofs.Finding.{index_within}
use Rattle.occ_project_units.specs.Project.{IsProject}

pub returns-in_default-clause-flags : goal.returns-in_default-clause-flags
returns-in_default-clause-flags c =
    let project : IsProject c.args.graph.now = subst IsProject c.project.ensures c.files-files.ensures.in_order in
    let high = c.height_law.ensures c.args.graph.now project in
    are_flags c.args.graph.now c.args.cached.now (λ u. c.done_law.ensures.done c.args.graph.now c.args.cached.now u project) c.args.flags.now high.0 high.1 c.requires.sound
    (full_else c.args.graph.now c.args.cached.now project c.args.flags.now c.args.unit (search rules) c.requires.full)

pub returns-in_default-clause-awaited : goal.returns-in_default-clause-awaited
returns-in_default-clause-awaited c = none_awaited c.args.graph.now c.args.flags.now _ _ c.forget.ensures

pub settle_done-requires-clause-within : goal.settle_done-requires-clause-within
settle_done-requires-clause-within c =
    let at : index c.args.unit c.args.graph.now ≡ Some c.in-Some.index = sym (c.in-Some.ensures ∙ ap (index c.args.unit) c.project-2.ensures) in
    index_within c.args.unit c.args.graph.now c.in-Some.index at

pub settle_done-requires-clause-done : goal.settle_done-requires-clause-done
settle_done-requires-clause-done c =
    let at : index c.args.unit c.args.graph.now ≡ Some c.in-Some.index = sym (c.in-Some.ensures ∙ ap (index c.args.unit) c.project-2.ensures) in
    subst (λ (u : List ℕ). done c.args.graph.now c.args.cached.now u ≡ true) (sym (name_there c.args.graph.now c.args.unit c.in-Some.index at)) c.requires.done

pub settle_done-requires-clause-full : goal.settle_done-requires-clause-full
settle_done-requires-clause-full c =
    let project : IsProject c.args.graph.now = subst IsProject c.project.ensures c.files-files.ensures.in_order in
    let at : index c.args.unit c.args.graph.now ≡ Some c.in-Some.index = sym (c.in-Some.ensures ∙ ap (index c.args.unit) c.project-2.ensures) in
    full_or c.args.graph.now c.args.cached.now project c.args.flags.now c.args.unit c.in-Some.index at c.requires.full

pub users-requires : goal.users-requires
users-requires c =
    let at : index c.args.unit c.args.graph.now ≡ Some c.in-Some.index = sym (c.in-Some.ensures ∙ ap (index c.args.unit) c.project-2.ensures) in
    index_within c.args.unit c.args.graph.now c.in-Some.index at

pub follow-requires-clause-done : goal.follow-requires-clause-done
follow-requires-clause-done c =
    let at : index c.args.unit c.args.graph.now ≡ Some c.in-Some.index = sym (c.in-Some.ensures ∙ ap (index c.args.unit) c.project-2.ensures) in
    let lt = index_within c.args.unit c.args.graph.now c.in-Some.index at in
    ap (λ (fs : List Bool). get_or fs c.in-Some.index false) (c.as_slice.ensures ∙ c.settle_done.ensures.alone (search rules)) ∙ set_here c.args.flags.now c.in-Some.index (omega (arith, lt, c.requires.len))

pub follow-requires-clause-awaited : goal.follow-requires-clause-awaited
follow-requires-clause-awaited c = λ p file lt e ready.
    let project : IsProject c.args.graph.now = subst IsProject c.project.ensures c.files-files.ensures.in_order in
    elim (awaited_more c.args.graph.now c.args.cached.now project (c.users_law.ensures.rests c.args.graph.now) c.args.flags.now c.as_slice.result.now c.in-Some.index c.args.waiting.now.early c.args.waiting.now.from (c.as_slice.ensures ∙ c.settle_done.ensures.alone (search rules)) c.requires.awaited p file lt e ready) [
      | inl h ↦ inl h
      | inr k ↦ inr (subst (λ (ws : List ℕ). is_among ws p ≡ true) (sym c.users.ensures) k)
    ]

pub returns-else-settle_done-clause-awaited : goal.returns-else-settle_done-clause-awaited
returns-else-settle_done-clause-awaited c = none_awaited c.args.graph.now c.settle_done.new.flags _ _ c.forget-else-settle_done.ensures
