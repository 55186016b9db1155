use Rattle.std.proofs.Common.{◌<◌, ◌+◌, ◌∙◌, ◌∷◌, ap, drop, length, ℕ, List, rules, subst, sym}
use Rattle.std.proofs.lemmas.List.{drop_more}
use Rattle.occ_board.proofs.Marked.{all_resettled, resettled_more}
use Rattle.occ_board.proofs.Settled.{are_flags}
use Rattle.occ_board.proofs.Spread.{among_there}
use Rattle.occ_board.proofs.flags.settle_among.Goals as goal
use Rattle.occ_project_units.specs.Project.{IsProject}

pub loop-place-init : goal.loop-place-init
loop-place-init c = (c.requires.len, c.requires.sound, c.requires.full, c.requires.verified)

pub spread_to-requires-clause-within : goal.spread_to-requires-clause-within
spread_to-requires-clause-within c = subst (λ (p : ℕ). p < length c.args.graph.now) (sym c.at.ensures) (c.requires.within _ (among_there c.args.indices.now c.loop-place.place (subst (λ (n : ℕ). c.loop-place.place < n) c.count-place-end.ensures c.loop-place-test.true)))

pub loop-place-preserved : goal.loop-place-preserved
loop-place-preserved c =
    let indices : List ℕ = c.args.indices.now in
    let i : ℕ = c.loop-place.place in (
      c.spread_to.ensures.len,
      c.spread_to.ensures.sound,
      resettled_more c.args.graph.now c.args.cached.now indices c.loop-place.flags c.spread_to.new.flags i c.at.result c.loop-place.invariant.2 (drop_more indices i 0 (subst (λ (n : ℕ). c.loop-place.place < n) c.count-place-end.ensures c.loop-place-test.true) ∙ ap (λ (p : ℕ). p ∷ drop (i + 1) indices) (sym c.at.ensures)) c.spread_to.ensures.full,
      c.spread_to.ensures.verified,
    )

pub returns-clause-flags : goal.returns-clause-flags
returns-clause-flags c =
    let project : IsProject c.args.graph.now = subst IsProject c.project.ensures c.files-files.ensures.in_order in
    let high = c.height_law.ensures c.args.graph.now project in
    are_flags c.args.graph.now c.args.cached.now (λ u. c.done_law.ensures.done c.args.graph.now c.args.cached.now u project) c.loop-place.flags high.0 high.1 c.loop-place.invariant.1
    (all_resettled c.args.graph.now c.args.cached.now c.args.indices.now c.loop-place.flags c.loop-place.place (search rules) c.loop-place.invariant.2)
