use Rattle.std.proofs.Common.{arith}
use Rattle.std.proofs.lemmas.Grind.{common_steps}
use Rattle.occ_expr_operations.specs.Elements.{element_of}
use Rattle.occ_expr_operations.proofs.selecting.element_of.Goals as goal

pub returns : goal.returns
unfolding element_of
returns c = grind (arith, common_steps)

pub returns-in_default : goal.returns-in_default
unfolding element_of
returns-in_default c = grind (arith, common_steps)
