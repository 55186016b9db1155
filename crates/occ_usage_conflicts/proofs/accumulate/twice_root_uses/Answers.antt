use Rattle.std.proofs.Common.{◌∙◌, [], ◌∷◌}
use Rattle.occ_usage_conflicts.proofs.accumulate.twice_root_uses.Goals as goal

pub returns : goal.returns
returns c = (
  c.in_ok-step-2.ensures.0 ∙ c.in_ok-step.ensures.0 ∙ c.in_ok-roots.ensures.0,
  c.in_ok-step-2.ensures.1 (c.args.uses.now ∷ []) (c.in_ok-step.ensures.1 [] c.in_ok-roots.ensures.1),
)
