use Rattle.std.proofs.Common.{◌≡◌, ◌∙◌, ◌+◌, ◌++◌, ◌∷◌, drop, ap, sym}
use Rattle.occ_tree.specs.Forest.{forest_of}
use Rattle.occ_tree.specs.declared.tree.Node.{out-Node}
use Rattle.occ_typing.specs.TypedLines.{typed_lines}
use Rattle.occ_typing_lines.specs.Judging.{judged}
use Rattle.occ_typing.specs.Units.{lines}
use Rattle.occ_typing.proofs.Walking.{split_at, stays_so, step, step_lines}
use Rattle.occ_typing.proofs.walk.+lines.Goals as goal

pub lines_kept-loop-node-preserved : goal.lines_kept-loop-node-preserved
lines_kept-loop-node-preserved t c =
    let split : drop c.loop-node.node-index c.args.nodes.now ≡ c.node-item.result ∷ drop (c.loop-node.node-index + 1) c.args.nodes.now = split_at _ _ _ c.loop-node-test.true c.node-item.is in
    let typed = ap (λ z. c.loop-node.typed ++ typed_lines c.args.imports.now c.loop-node.parent c.args.scope.now c.loop-node.scope (forest_of z)) (sym split) ∙ c.loop-node.invariant.2 in
    let reported = ap (λ z. c.loop-node.found ++ lines c.args.imports.now c.loop-node.parent c.args.scope.now c.loop-node.scope (forest_of z)) (sym split) ∙ c.loop-node.invariant.3 in
    let scope = stays_so _ _ _ _ (judged c.args.imports.now c.loop-node.scope (out-Node c.node-item.result).line.body (forest_of (out-Node c.node-item.result).children) c.loop-node.parent).line.adds c.loop-node.invariant.0 c.loop-node.invariant.1 c.in_ok-parent.ensures.scope in (
      scope.0,
      scope.1,
      step_lines _ _ _ _ _ _ c.node-item.result _ c.loop-node.typed _ _ _ c.loop-node.invariant.1 typed c.in_ok-parent.ensures.next c.in_ok-parent.ensures.scope c.in_ok-parent.ensures.typed,
      step _ _ _ _ _ _ c.node-item.result _ c.loop-node.found _ _ _ c.loop-node.invariant.1 reported c.in_ok-parent.ensures.next c.in_ok-parent.ensures.scope c.in_ok-parent.ensures.found,
    )
