use Rattle.std.proofs.lemmas.Bool.{lt-ltb}
use Rattle.occ_tree.proofs.Ends.{child_taken, popped}
use Rattle.occ_tree.proofs.marks.take_children.Goals as goal

pub loop-top-preserved : goal.loop-top-preserved
loop-top-preserved c =
    child_taken c.args.row c.args.depth _ _ c.in-Some.top.now _ _ _ _ _ (popped _ _ _ c.in-Some.ensures.0 _ c.pop.ensures c.in-Some.ensures.1)
    (lt-ltb _ _ c.if-top-depth.false) c.is_head_before_close.ensures c.and-children.ensures c.loop-top.invariant
