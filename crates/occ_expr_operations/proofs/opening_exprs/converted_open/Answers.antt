use Rattle.std.proofs.Common.{arith}
use Rattle.std.proofs.lemmas.Grind.{common_steps}
use Rattle.occ_expr_operations.proofs.OpenTypes.{type_rules}
use Rattle.occ_expr_operations.proofs.opening_exprs.converted_open.Goals as goal

pub returns-in-Faulty : goal.returns-in-Faulty
returns-in-Faulty c = grind (arith, common_steps, type_rules)

pub returns-in-Untyped : goal.returns-in-Untyped
returns-in-Untyped c = grind (arith, common_steps, type_rules)

pub returns-in_default : goal.returns-in_default
returns-in_default c = grind (arith, common_steps, type_rules)

pub returns-in_ok-share-in-Known : goal.returns-in_ok-share-in-Known
returns-in_ok-share-in-Known c = grind (arith, common_steps, type_rules)
