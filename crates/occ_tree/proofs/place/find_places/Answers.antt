use Rattle.std.proofs.Common.{ap}
use Rattle.occ_tree.specs.Sorts.{outlines}
use Rattle.occ_tree.proofs.Walk.{place_more}
use Rattle.occ_tree.proofs.place.find_places.Goals as goal

pub loop-first-preserved : goal.loop-first-preserved
loop-first-preserved c =
    let i = c.loop-first.invariant in
    place_more i.0 (outlines c.loop-first.rest.now) (outlines c.in-Some.after.now) (outlines c.args.lines.now) c.of-line.result _ _ _ _ _ _ _ _ _ i.1
    (λ f fs h. rw c.in_ok-turn_to.was at (c.turn_to.ensures f fs h)) c.enter.ensures c.place_in.ensures i.2 c.in_ok-push.ensures
    (rw c.of-line.ensures (ap outlines c.in-Some.ensures.cases.0)) i.3
