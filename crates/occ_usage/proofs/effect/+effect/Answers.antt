use Rattle.std.proofs.Common.{◌∙◌, ◌||◌, Bool, ap}
use Rattle.occ_usage.proofs.Trees.{from_line}
use Rattle.occ_usage.proofs.Walking.{effect_stands, step_effect}
use Rattle.occ_usage.specs.Effect.{effect_under}
use Rattle.occ_usage.specs.Trees.{head_of, under}
use Rattle.occ_usage.proofs.effect.+effect.Goals as goal

pub lines_effect-loop-line-preserved : goal.lines_effect-loop-line-preserved
lines_effect-loop-line-preserved t c =
    let split = from_line _ _ _ c.loop-line-test.true c.line-item.is in
    let h = head_of c.line-item.result in
    let u = under c.line-item.result in
    let stands = effect_stands _ _ _ _ h (effect_under u c.loop-line.env h) c.loop-line.invariant.0 c.loop-line.invariant.1 c.in_ok-has_effect.ensures.env in (
      stands.0,
      stands.1,
      step_effect h u _ _ _ _ _ _ _ _ split c.loop-line.invariant.2 (c.either-found.ensures ∙ ap (λ (z : Bool). c.loop-line.found || z) c.in_ok-has_effect.ensures.found) stands.2,
    )
