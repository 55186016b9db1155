use Rattle.std.proofs.Common.{arith}
use Rattle.std.proofs.lemmas.Grind.{common_steps}
use Rattle.occ_expr_operations.proofs.Layers.{layer_rules}
use Rattle.occ_expr_operations.proofs.calling.call_in.Goals as goal

pub returns-in-Alone : goal.returns-in-Alone
returns-in-Alone c = grind (arith, common_steps, layer_rules)

pub returns-in-Applied : goal.returns-in-Applied
returns-in-Applied c = grind (arith, common_steps, layer_rules)

pub returns-in-ArrayConverted : goal.returns-in-ArrayConverted
returns-in-ArrayConverted c = grind (arith, common_steps, layer_rules)

pub returns-in-Converted : goal.returns-in-Converted
returns-in-Converted c = grind (arith, common_steps, layer_rules)

pub returns-in-Most : goal.returns-in-Most
returns-in-Most c = grind (arith, common_steps, layer_rules)

pub returns-in-Named : goal.returns-in-Named
returns-in-Named c = grind (arith, common_steps, layer_rules)

pub returns-in-Pair : goal.returns-in-Pair
returns-in-Pair c = grind (arith, common_steps, layer_rules)

pub returns-in-Run : goal.returns-in-Run
returns-in-Run c = grind (arith, common_steps, layer_rules)
