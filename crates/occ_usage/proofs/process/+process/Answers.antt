use Rattle.occ_usage.proofs.Trees.{from_line}
use Rattle.occ_usage.proofs.Walking.{after_stands, step_passed, step_process}
use Rattle.occ_usage.specs.Trees.{head_of, under}
use Rattle.occ_usage.proofs.process.+process.Goals as goal

pub lines-loop-one-preserved : goal.lines-loop-one-preserved
lines-loop-one-preserved t c =
    let split = from_line _ _ _ c.loop-one-test.true c.one-item.is in
    let h = head_of c.one-item.result in
    let u = under c.one-item.result in
    let stands = after_stands _ _ _ _ h u c.loop-one.invariant.0 c.loop-one.invariant.1 (c.in_ok-line.ensures.env c.loop-one.invariant.0) in (
      stands.0,
      stands.1,
      step_process _ _ h u _ _ _ _ _ _ _ _ split c.loop-one.invariant.2 c.in_ok-line.ensures.found c.in_ok-line.ensures.left stands.2,
      step_passed _ _ _ h u _ _ split c.loop-one.invariant.3 c.in_ok-line.ensures.left,
    )
