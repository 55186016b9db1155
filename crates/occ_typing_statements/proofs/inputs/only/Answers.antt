use Rattle.std.proofs.Common.{arith}
use Rattle.std.proofs.lemmas.Grind.{common_steps}
use Rattle.occ_typing_statements.proofs.Times.{one_rules}
use Rattle.occ_typing_statements.proofs.inputs.only.Goals as goal

pub returns : goal.returns
returns c = grind (arith, common_steps, one_rules)

pub returns-then-is_empty : goal.returns-then-is_empty
returns-then-is_empty c = grind (arith, common_steps, one_rules)
