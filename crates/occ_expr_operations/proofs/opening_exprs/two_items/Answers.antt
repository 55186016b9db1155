use Rattle.std.proofs.Common.{arith}
use Rattle.std.proofs.lemmas.Grind.{common_steps}
use Rattle.occ_expr_operations.proofs.OpenTypes.{type_rules}
use Rattle.occ_expr_operations.proofs.opening_exprs.two_items.Goals as goal

pub returns : goal.returns
returns c = grind (arith, common_steps, type_rules)
