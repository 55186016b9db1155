use Rattle.std.proofs.Common.{arith}
use Rattle.std.proofs.lemmas.Grind.{common_steps}
use Rattle.occ_typing_lines.proofs.Trees.{tree_rules}
use Rattle.occ_typing_lines.proofs.judge.form_line.Goals as goal

pub returns-in-Close-clause-faults : goal.returns-in-Close-clause-faults
returns-in-Close-clause-faults c = grind (arith, common_steps, tree_rules)

pub returns-in-Close-clause-found : goal.returns-in-Close-clause-found
returns-in-Close-clause-found c = grind (arith, common_steps, tree_rules)

pub returns-in-Close-clause-line : goal.returns-in-Close-clause-line
returns-in-Close-clause-line c = grind (arith, common_steps, tree_rules)

pub returns-in-Close-clause-scope : goal.returns-in-Close-clause-scope
returns-in-Close-clause-scope c = grind (arith, common_steps, tree_rules)

pub returns-in-Construct-clause-faults : goal.returns-in-Construct-clause-faults
returns-in-Construct-clause-faults c = grind (arith, common_steps, tree_rules)

pub returns-in-Construct-clause-found : goal.returns-in-Construct-clause-found
returns-in-Construct-clause-found c = grind (arith, common_steps, tree_rules)

pub returns-in-Construct-clause-line : goal.returns-in-Construct-clause-line
returns-in-Construct-clause-line c = grind (arith, common_steps, tree_rules)

pub returns-in-Construct-clause-scope : goal.returns-in-Construct-clause-scope
returns-in-Construct-clause-scope c = grind (arith, common_steps, tree_rules)

pub returns-in-Expressions-clause-faults : goal.returns-in-Expressions-clause-faults
returns-in-Expressions-clause-faults c = grind (arith, common_steps, tree_rules)

pub returns-in-Expressions-clause-found : goal.returns-in-Expressions-clause-found
returns-in-Expressions-clause-found c = grind (arith, common_steps, tree_rules)

pub returns-in-Expressions-clause-line : goal.returns-in-Expressions-clause-line
returns-in-Expressions-clause-line c = grind (arith, common_steps, tree_rules)

pub returns-in-Expressions-clause-scope : goal.returns-in-Expressions-clause-scope
returns-in-Expressions-clause-scope c = grind (arith, common_steps, tree_rules)

pub returns-in-Part-clause-faults : goal.returns-in-Part-clause-faults
returns-in-Part-clause-faults c = grind (arith, common_steps, tree_rules)

pub returns-in-Part-clause-found : goal.returns-in-Part-clause-found
returns-in-Part-clause-found c = grind (arith, common_steps, tree_rules)

pub returns-in-Part-clause-line : goal.returns-in-Part-clause-line
returns-in-Part-clause-line c = grind (arith, common_steps, tree_rules)

pub returns-in-Part-clause-scope : goal.returns-in-Part-clause-scope
returns-in-Part-clause-scope c = grind (arith, common_steps, tree_rules)

pub returns-in-Specified-clause-faults : goal.returns-in-Specified-clause-faults
returns-in-Specified-clause-faults c = grind (arith, common_steps, tree_rules)

pub returns-in-Specified-clause-found : goal.returns-in-Specified-clause-found
returns-in-Specified-clause-found c = grind (arith, common_steps, tree_rules)

pub returns-in-Specified-clause-line : goal.returns-in-Specified-clause-line
returns-in-Specified-clause-line c = grind (arith, common_steps, tree_rules)

pub returns-in-Specified-clause-scope : goal.returns-in-Specified-clause-scope
returns-in-Specified-clause-scope c = grind (arith, common_steps, tree_rules)

pub returns-in-Tagged-clause-faults : goal.returns-in-Tagged-clause-faults
returns-in-Tagged-clause-faults c = grind (arith, common_steps, tree_rules)

pub returns-in-Tagged-clause-found : goal.returns-in-Tagged-clause-found
returns-in-Tagged-clause-found c = grind (arith, common_steps, tree_rules)

pub returns-in-Tagged-clause-line : goal.returns-in-Tagged-clause-line
returns-in-Tagged-clause-line c = grind (arith, common_steps, tree_rules)

pub returns-in-Tagged-clause-scope : goal.returns-in-Tagged-clause-scope
returns-in-Tagged-clause-scope c = grind (arith, common_steps, tree_rules)

pub returns-in_ok-form-in-Action-clause-faults : goal.returns-in_ok-form-in-Action-clause-faults
returns-in_ok-form-in-Action-clause-faults c = grind (arith, common_steps, tree_rules)

pub returns-in_ok-form-in-Action-clause-found : goal.returns-in_ok-form-in-Action-clause-found
returns-in_ok-form-in-Action-clause-found c = grind (arith, common_steps, tree_rules)

pub returns-in_ok-form-in-Action-clause-line : goal.returns-in_ok-form-in-Action-clause-line
returns-in_ok-form-in-Action-clause-line c = grind (arith, common_steps, tree_rules)

pub returns-in_ok-form-in-Action-clause-scope : goal.returns-in_ok-form-in-Action-clause-scope
returns-in_ok-form-in-Action-clause-scope c = grind (arith, common_steps, tree_rules)
