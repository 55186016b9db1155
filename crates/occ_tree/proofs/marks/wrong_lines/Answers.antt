use Rattle.std.proofs.Common.{◌∙◌, [], sym}
use Rattle.occ_tree.specs.inside.Frames.{turned}
use Rattle.occ_tree.specs.Sorts.{outlines}
use Rattle.occ_tree.proofs.Ends.{popped}
use Rattle.occ_tree.proofs.Walk.{turned_twice, wrong_done, wrong_more}
use Rattle.occ_tree.proofs.marks.wrong_lines.Goals as goal

pub loop-place-init : goal.loop-place-init
loop-place-init c =
    (turned (outlines c.args.lines.now) [], [], c.in_ok-places.ensures, c.in_ok-roots.ensures, c.in_ok-found.ensures, turned_twice (outlines c.args.lines.now))

pub loop-place-preserved : goal.loop-place-preserved
loop-place-preserved c =
    let i = c.loop-place.invariant in
    wrong_more i.0 i.1 _ _ _ _ _ _ _ _ _ _ i.2 (popped _ _ _ c.in-Some.ensures.0 _ c.pop.ensures c.in-Some.ensures.1) i.3 i.4 i.5
    c.is_wrong.ensures.wrong c.is_wrong.ensures.rest c.in_ok-push-2.ensures c.in_ok-push.ensures

pub returns : goal.returns
returns c =
    let i = c.loop-place.invariant in
    wrong_done i.0 i.1 _ _ (sym i.2 ∙ c.in_default.ensures) i.4 i.5
