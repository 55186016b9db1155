use Rattle.occ_usage.proofs.Trees.{from_line}
use Rattle.occ_usage.proofs.Walking.{after_stands, step_after, step_reported}
use Rattle.occ_usage.specs.AbbreviationRule.{abbreviation_at}
use Rattle.occ_usage.specs.ParallelRule.{parallel_at}
use Rattle.occ_usage.specs.Trees.{head_of, under}
use Rattle.occ_usage.proofs.walk.go_through.Goals as goal

pub loop-one-preserved : goal.loop-one-preserved
loop-one-preserved c =
    let split = from_line _ _ _ c.loop-one-test.true c.one-item.is in
    let h = head_of c.one-item.result in
    let u = under c.one-item.result in
    let stands = after_stands _ _ _ _ h u c.loop-one.invariant.0 c.loop-one.invariant.1 (c.in_ok-go_over.ensures.env c.loop-one.invariant.0) in (
      stands.0,
      stands.1,
      step_after h u _ _ _ _ _ _ split c.loop-one.invariant.2 stands.2,
      step_reported parallel_at h u _ _ _ _ _ _ _ _ split c.loop-one.invariant.3 c.in_ok-go_over.ensures.parallel stands.2,
      step_reported abbreviation_at h u _ _ _ _ _ _ _ _ split c.loop-one.invariant.4 c.in_ok-go_over.ensures.abbreviations stands.2,
    )
