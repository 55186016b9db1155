use Rattle.std.proofs.Common.{arith, Bool, refl, ◌<◌, ◌+◌, ◌∙◌, ◌∷◌, ap, drop, ℕ, List, rules, subst, sym, ◌≡◌, true}
use Rattle.std.proofs.lemmas.List.{drop_more}
use Rattle.occ_board.proofs.Spread.{among_there, spread_begun, spread_more, spread_none, spread_over, waiting_full}
use Rattle.std.specs.List.{list_all}
use Rattle.occ_board.proofs.flags.+spread.Goals as goal
use Rattle.occ_board.specs.inside.Flagged.{flag_of}
use Rattle.occ_project_graph.specs.Graph.{is_among}
use Rattle.occ_project_units.specs.Along.{name_at}
use Rattle.occ_project_units.specs.Indices.{rest_units}
use Rattle.occ_project_units.specs.Project.{IsProject}

pub spread-returns-then-not-advance-clause-full : goal.spread-returns-then-not-advance-clause-full
spread-returns-then-not-advance-clause-full t c =
    spread_none c.args.graph.now c.args.cached.now (subst IsProject c.project.ensures c.files-files.ensures.in_order) c.args.flags.now c.advance.new.flags c.args.index (c.advance.ensures.same c.if-not-advance.true) (c.advance.ensures.full c.if-not-advance.true)

pub spread-loop-place-init : goal.spread-loop-place-init
spread-loop-place-init t c = (
  spread_begun c.args.graph.now c.args.cached.now (subst IsProject c.project.ensures c.files-files.ensures.in_order) (c.users_law.ensures.rests c.args.graph.now) c.users-users.result c.args.flags.now c.advance.new.flags c.args.index c.users-users.ensures
      (c.advance.ensures.set c.if-not-advance.false) c.requires.len c.requires.within c.advance.ensures.len c.advance.ensures.sound (c.advance.ensures.fewer c.if-not-advance.false),
  c.advance.ensures.verified,
)

pub spread-spread_to-requires : goal.spread-spread_to-requires
spread-spread_to-requires t c =
    let users : List ℕ = c.users-users.result in
    let i : ℕ = c.loop-place.place in
    let there = subst (λ (p : ℕ). is_among users p ≡ true) (sym c.at.ensures) (among_there users i (subst (λ (n : ℕ). c.loop-place.place < n) c.count-place-end.ensures c.loop-place-test.true)) in
    let among = subst (λ (ws : List ℕ). is_among ws c.at.result ≡ true) c.users-users.ensures there in
    let fewer = c.loop-place.invariant.0.fewer in
    let least = c.decreases in
    (omega (arith, fewer, least), (c.users_law.ensures.within c.args.graph.now c.at.result c.args.index among, (c.loop-place.invariant.0.len, (c.loop-place.invariant.0.sound, (c.requires.reported, c.loop-place.invariant.1)))))

pub spread-loop-place-preserved : goal.spread-loop-place-preserved
spread-loop-place-preserved t c =
    let users : List ℕ = c.users-users.result in
    let i : ℕ = c.loop-place.place in (
      spread_more c.args.graph.now c.args.cached.now (subst IsProject c.project.ensures c.files-files.ensures.in_order) users c.args.flags.now c.loop-place.flags c.spread_to.new.flags c.args.index i c.at.result c.loop-place.invariant.0
          (drop_more users i 0 (subst (λ (n : ℕ). c.loop-place.place < n) c.count-place-end.ensures c.loop-place-test.true) ∙ ap (λ (p : ℕ). p ∷ drop (i + 1) users) (sym c.at.ensures))
          c.spread_to.ensures.len c.spread_to.ensures.sound c.spread_to.ensures.least c.spread_to.ensures.full,
      c.spread_to.ensures.verified,
    )

pub spread-returns-clause-full : goal.spread-returns-clause-full
spread-returns-clause-full t c =
    spread_over c.args.graph.now c.args.cached.now (subst IsProject c.project.ensures c.files-files.ensures.in_order) c.users-users.result c.args.flags.now c.loop-place.flags c.args.index c.loop-place.place c.loop-place.invariant.0 (search rules) (search rules)

pub spread_to-returns-then-is_waiting-clause-full : goal.spread_to-returns-then-is_waiting-clause-full
spread_to-returns-then-is_waiting-clause-full t c =
    let flagged = ap (λ (fs : List Bool). list_all (flag_of c.args.graph.now fs) (rest_units c.args.graph.now (name_at c.args.graph.now c.args.index))) (sym c.as_slice.ensures) ∙ c.if-is_waiting.ensures refl in
    λ p within full. waiting_full c.args.graph.now c.args.cached.now c.args.flags.now c.args.index flagged p full
