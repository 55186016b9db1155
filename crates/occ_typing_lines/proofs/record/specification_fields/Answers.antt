use Rattle.std.proofs.Common.{arith}
use Rattle.std.proofs.lemmas.Grind.{common_steps}
use Rattle.occ_typing_lines.proofs.Trees.{tree_rules}
use Rattle.occ_typing_lines.proofs.record.specification_fields.Goals as goal

pub returns-in-Abbreviation-clause-faults : goal.returns-in-Abbreviation-clause-faults
returns-in-Abbreviation-clause-faults c = grind (arith, common_steps, tree_rules)

pub returns-in-Abbreviation-clause-fields : goal.returns-in-Abbreviation-clause-fields
returns-in-Abbreviation-clause-fields c = grind (arith, common_steps, tree_rules)

pub returns-in-Abbreviation-clause-names : goal.returns-in-Abbreviation-clause-names
returns-in-Abbreviation-clause-names c = grind (arith, common_steps, tree_rules)

pub returns-in-DataType-clause-faults : goal.returns-in-DataType-clause-faults
returns-in-DataType-clause-faults c = grind (arith, common_steps, tree_rules)

pub returns-in-DataType-clause-fields : goal.returns-in-DataType-clause-fields
returns-in-DataType-clause-fields c = grind (arith, common_steps, tree_rules)

pub returns-in-DataType-clause-names : goal.returns-in-DataType-clause-names
returns-in-DataType-clause-names c = grind (arith, common_steps, tree_rules)

pub returns-in-Declaration-clause-faults : goal.returns-in-Declaration-clause-faults
returns-in-Declaration-clause-faults c = grind (arith, common_steps, tree_rules)

pub returns-in-Declaration-clause-fields : goal.returns-in-Declaration-clause-fields
returns-in-Declaration-clause-fields c = grind (arith, common_steps, tree_rules)

pub returns-in-Declaration-clause-names : goal.returns-in-Declaration-clause-names
returns-in-Declaration-clause-names c = grind (arith, common_steps, tree_rules)

pub returns-in-Function-clause-faults : goal.returns-in-Function-clause-faults
returns-in-Function-clause-faults c = grind (arith, common_steps, tree_rules)

pub returns-in-Function-clause-fields : goal.returns-in-Function-clause-fields
returns-in-Function-clause-fields c = grind (arith, common_steps, tree_rules)

pub returns-in-Function-clause-names : goal.returns-in-Function-clause-names
returns-in-Function-clause-names c = grind (arith, common_steps, tree_rules)

pub returns-in-Protocol-clause-faults : goal.returns-in-Protocol-clause-faults
returns-in-Protocol-clause-faults c = grind (arith, common_steps, tree_rules)

pub returns-in-Protocol-clause-fields : goal.returns-in-Protocol-clause-fields
returns-in-Protocol-clause-fields c = grind (arith, common_steps, tree_rules)

pub returns-in-Protocol-clause-names : goal.returns-in-Protocol-clause-names
returns-in-Protocol-clause-names c = grind (arith, common_steps, tree_rules)

pub returns-in-Retyped-clause-faults : goal.returns-in-Retyped-clause-faults
returns-in-Retyped-clause-faults c = grind (arith, common_steps, tree_rules)

pub returns-in-Retyped-clause-fields : goal.returns-in-Retyped-clause-fields
returns-in-Retyped-clause-fields c = grind (arith, common_steps, tree_rules)

pub returns-in-Retyped-clause-names : goal.returns-in-Retyped-clause-names
returns-in-Retyped-clause-names c = grind (arith, common_steps, tree_rules)

pub returns-in-RetypedValue-clause-faults : goal.returns-in-RetypedValue-clause-faults
returns-in-RetypedValue-clause-faults c = grind (arith, common_steps, tree_rules)

pub returns-in-RetypedValue-clause-fields : goal.returns-in-RetypedValue-clause-fields
returns-in-RetypedValue-clause-fields c = grind (arith, common_steps, tree_rules)

pub returns-in-RetypedValue-clause-names : goal.returns-in-RetypedValue-clause-names
returns-in-RetypedValue-clause-names c = grind (arith, common_steps, tree_rules)

pub returns-in-Value-clause-faults : goal.returns-in-Value-clause-faults
returns-in-Value-clause-faults c = grind (arith, common_steps, tree_rules)

pub returns-in-Value-clause-fields : goal.returns-in-Value-clause-fields
returns-in-Value-clause-fields c = grind (arith, common_steps, tree_rules)

pub returns-in-Value-clause-names : goal.returns-in-Value-clause-names
returns-in-Value-clause-names c = grind (arith, common_steps, tree_rules)
