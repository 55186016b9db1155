use Rattle.occ_usage.proofs.Trees.{from_line}
use Rattle.occ_usage.proofs.Walking.{step_each}
use Rattle.occ_usage.specs.Trees.{head_of, under}
use Rattle.occ_usage.proofs.each_line.+each.Goals as goal

pub add_lines-loop-one-preserved : goal.add_lines-loop-one-preserved
add_lines-loop-one-preserved t c =
    step_each (head_of c.one-item.result) (under c.one-item.result) _ _ _ _ _ _ _ _ _ _ c.loop-one.invariant.0 c.loop-one.invariant.1 c.in_ok-add_line.ensures.env c.in_ok-go_after.ensures
    (from_line _ _ _ c.loop-one-test.true c.one-item.is) c.loop-one.invariant.2 c.in_ok-add_line.ensures.uses
