use Rattle.std.proofs.Common.{◌∙◌, sym}
use Rattle.occ_check.proofs.Again.{same_diags, same_interface}
use Rattle.occ_check.proofs.outcome.Outcome.again.Goals as goal

pub invariant_of-result : goal.invariant_of-result
invariant_of-result c = (
  c.in-Ok.ensures.diags ∙ sym (same_diags c.args.job c.args.self.now c.requires.expansion c.requires.used),
  c.in-Ok.ensures.interface ∙ sym (same_interface c.args.job c.args.self.now c.requires.expansion c.requires.used),
)
