use Rattle.std.proofs.Common.{arith, ◌<◌, ◌+◌, ◌∙◌, ◌∷◌, ap, drop, ℕ, List, subst, sym, ◌≡◌, true}
use Rattle.std.proofs.lemmas.List.{drop_more}
use Rattle.occ_board.proofs.Marked.{touch_alone, touch_begun, touch_more}
use Rattle.occ_board.proofs.Settled.{set_fewer}
use Rattle.occ_board.proofs.Spread.{among_there}
use Rattle.occ_board.proofs.touching.+touch.Goals as goal
use Rattle.occ_board.specs.inside.Flagged.{unflagged}
use Rattle.occ_project_graph.specs.Graph.{is_among}

pub touch_first-loop-place-init : goal.touch_first-loop-place-init
touch_first-loop-place-init t c =
    touch_begun c.args.graph.now c.args.flags.now c.args.all (c.users_law.ensures.users c.args.graph.now) c.users-users.result c.args.touched.now _ c.args.index c.users-users.ensures c.in_ok-mark.ensures c.requires.len c.requires.within c.requires.unmarked

pub touch_first-touch-requires : goal.touch_first-touch-requires
touch_first-touch-requires t c =
    let users : List ℕ = c.users-users.result in
    let i : ℕ = c.loop-place.place in
    let there = subst (λ (p : ℕ). is_among users p ≡ true) (sym c.at.ensures) (among_there users i (subst (λ (n : ℕ). c.loop-place.place < n) c.count-place-end.ensures c.loop-place-test.true)) in
    let among = subst (λ (ws : List ℕ). is_among ws c.at.result ≡ true) c.users-users.ensures there in
    let fewer = c.loop-place.invariant.fewer in
    let least = c.decreases in
    (omega (arith, fewer, least), (c.users_law.ensures.within c.args.graph.now c.at.result c.args.index among, c.loop-place.invariant.len))

pub touch_first-loop-place-preserved : goal.touch_first-loop-place-preserved
touch_first-loop-place-preserved t c =
    let users : List ℕ = c.users-users.result in
    let i : ℕ = c.loop-place.place in
    touch_more c.args.graph.now c.args.flags.now c.args.all users c.args.touched.now c.loop-place.touched c.touch.new.touched c.args.index i c.at.result c.loop-place.invariant
    (drop_more users i 0 (subst (λ (n : ℕ). c.loop-place.place < n) c.count-place-end.ensures c.loop-place-test.true) ∙ ap (λ (p : ℕ). p ∷ drop (i + 1) users) (sym c.at.ensures))
    c.in_ok-touch.ensures.len c.in_ok-touch.ensures.least c.in_ok-touch.ensures.more c.in_ok-touch.ensures.here c.in_ok-touch.ensures.closed

pub touch_first-returns-then-not-goes_on-clause-least : goal.touch_first-returns-then-not-goes_on-clause-least
touch_first-returns-then-not-goes_on-clause-least t c =
    let within = c.requires.within in
    let len = c.requires.len in
    let fewer = set_fewer c.args.touched.now c.args.index (omega (arith, within, len)) c.requires.unmarked in
    let same = ap unflagged c.in_ok-mark.ensures in
    omega (arith, fewer, same)

pub touch_first-returns-then-not-goes_on-clause-closed : goal.touch_first-returns-then-not-goes_on-clause-closed
touch_first-returns-then-not-goes_on-clause-closed t c = touch_alone c.args.graph.now c.args.flags.now c.args.all c.args.touched.now c.mark.new.self c.args.index c.in_ok-mark.ensures (sym c.if-not-goes_on.ensures)
