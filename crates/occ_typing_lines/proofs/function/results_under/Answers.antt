use Rattle.std.proofs.Common.{arith}
use Rattle.std.proofs.lemmas.Grind.{common_steps}
use Rattle.occ_typing_lines.proofs.Scopes.{scope_rules}
use Rattle.occ_typing_lines.proofs.function.results_under.Goals as goal

pub returns-clause-faults : goal.returns-clause-faults
returns-clause-faults c = grind (arith, common_steps, scope_rules)

pub returns-clause-faulty : goal.returns-clause-faulty
returns-clause-faulty c = grind (arith, common_steps, scope_rules)

pub returns-clause-scope : goal.returns-clause-scope
returns-clause-scope c = grind (arith, common_steps, scope_rules)

pub returns-clause-trees : goal.returns-clause-trees
returns-clause-trees c = grind (arith, common_steps, scope_rules)
