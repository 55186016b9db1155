use Rattle.occ_tree.proofs.Grown.{nested_more}
use Rattle.occ_tree.proofs.nest.nest.Goals as goal

pub loop-line-preserved : goal.loop-line-preserved
loop-line-preserved c =
    let i = c.loop-line.invariant in
    nested_more _ _ i.0 c.args.lines c.in-Some.line _ _ _ _ i.1 c.in-Some.ensures i.2 c.in_ok-children.ensures.children c.in_ok-children.ensures.rest c.in_ok-push.ensures
