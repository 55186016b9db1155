use Rattle.std.proofs.Common.{arith}
use Rattle.std.proofs.lemmas.Grind.{common_steps}
use Rattle.occ_expr_operations.proofs.OpenTypes.{type_rules}
use Rattle.occ_expr_operations.proofs.opening_exprs.own_type.Goals as goal

pub returns-in-Applied : goal.returns-in-Applied
returns-in-Applied c = grind (arith, common_steps, type_rules)

pub returns-in-Faulty : goal.returns-in-Faulty
returns-in-Faulty c = grind (arith, common_steps, type_rules)

pub returns-in-Literal : goal.returns-in-Literal
returns-in-Literal c = grind (arith, common_steps, type_rules)

pub returns-in-Operation : goal.returns-in-Operation
returns-in-Operation c = grind (arith, common_steps, type_rules)

pub returns-in-Shifted : goal.returns-in-Shifted
returns-in-Shifted c = grind (arith, common_steps, type_rules)

pub returns-in-Table : goal.returns-in-Table
returns-in-Table c = grind (arith, common_steps, type_rules)

pub returns-in-Typed : goal.returns-in-Typed
returns-in-Typed c = grind (arith, common_steps, type_rules)
