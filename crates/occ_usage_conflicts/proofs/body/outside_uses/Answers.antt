use Rattle.std.proofs.Common.{◌∙◌, ap, sym, List}
use Rattle.occ_usage_values.specs.declared.uses.Use.{Use}
use Rattle.occ_usage_conflicts.specs.Bodies.{outside}
use Rattle.occ_usage_conflicts.proofs.Once.{distinct_onto, outside_step}
use Rattle.occ_usage_conflicts.proofs.body.outside_uses.Goals as goal

pub loop-found-preserved : goal.loop-found-preserved
loop-found-preserved c = (
  outside_step c.args.number c.args.locals c.args.line.now c.pop.new.self c.in-Some.found c.loop-found.seen _ c.in_ok-add_outside.ensures.seen
      ∙ ap (λ (us : List Use). distinct_onto c.loop-found.seen (outside c.args.number c.args.locals c.args.line.now us)) (sym c.in-Some.ensures)
      ∙ c.loop-found.invariant.0,
  c.in_ok-add_outside.ensures.links,
)
