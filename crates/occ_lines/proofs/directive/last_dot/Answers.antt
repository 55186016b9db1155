use Rattle.std.proofs.Common.{◌∙◌, ◌==◌, Some, ap, arith, cond, get_or, sym}
use Rattle.occ_lines.proofs.Dots.{next_dot}
use Rattle.occ_lines.proofs.directive.last_dot.Goals as goal

pub loop-i-preserved : goal.loop-i-preserved
loop-i-preserved c =
    c.later_dot-last.ensures ∙ ap (cond (get_or c.args.name.now c.loop-i.i 0 == 46) (Some c.loop-i.i)) c.loop-i.invariant ∙ sym (next_dot c.args.name.now c.loop-i.i (omega arith))
