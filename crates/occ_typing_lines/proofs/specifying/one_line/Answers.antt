use Rattle.std.proofs.Common.{arith}
use Rattle.std.proofs.lemmas.Grind.{common_steps}
use Rattle.occ_typing_lines.proofs.specifying.one_line.Goals as goal

pub returns-in_ok-compare_element-in-Abbreviation-clause-faults : goal.returns-in_ok-compare_element-in-Abbreviation-clause-faults
returns-in_ok-compare_element-in-Abbreviation-clause-faults c = grind (arith, common_steps)

pub returns-in_ok-compare_element-in-Abbreviation-clause-line : goal.returns-in_ok-compare_element-in-Abbreviation-clause-line
returns-in_ok-compare_element-in-Abbreviation-clause-line c = grind (arith, common_steps)

pub returns-in_ok-compare_element-in-Abbreviation-clause-scope : goal.returns-in_ok-compare_element-in-Abbreviation-clause-scope
returns-in_ok-compare_element-in-Abbreviation-clause-scope c = grind (arith, common_steps)

pub returns-in-DataType-clause-faults : goal.returns-in-DataType-clause-faults
returns-in-DataType-clause-faults c = grind (arith, common_steps)

pub returns-in-DataType-clause-line : goal.returns-in-DataType-clause-line
returns-in-DataType-clause-line c = grind (arith, common_steps)

pub returns-in-DataType-clause-scope : goal.returns-in-DataType-clause-scope
returns-in-DataType-clause-scope c = grind (arith, common_steps)

pub returns-in-Declaration-clause-faults : goal.returns-in-Declaration-clause-faults
returns-in-Declaration-clause-faults c = grind (arith, common_steps)

pub returns-in-Declaration-clause-line : goal.returns-in-Declaration-clause-line
returns-in-Declaration-clause-line c = grind (arith, common_steps)

pub returns-in-Declaration-clause-scope : goal.returns-in-Declaration-clause-scope
returns-in-Declaration-clause-scope c = grind (arith, common_steps)

pub returns-in-Function-clause-faults : goal.returns-in-Function-clause-faults
returns-in-Function-clause-faults c = grind (arith, common_steps)

pub returns-in-Function-clause-line : goal.returns-in-Function-clause-line
returns-in-Function-clause-line c = grind (arith, common_steps)

pub returns-in-Function-clause-scope : goal.returns-in-Function-clause-scope
returns-in-Function-clause-scope c = grind (arith, common_steps)

pub returns-in-Protocol-clause-faults : goal.returns-in-Protocol-clause-faults
returns-in-Protocol-clause-faults c = grind (arith, common_steps)

pub returns-in-Protocol-clause-line : goal.returns-in-Protocol-clause-line
returns-in-Protocol-clause-line c = grind (arith, common_steps)

pub returns-in-Protocol-clause-scope : goal.returns-in-Protocol-clause-scope
returns-in-Protocol-clause-scope c = grind (arith, common_steps)

pub returns-in-Retyped-clause-faults : goal.returns-in-Retyped-clause-faults
returns-in-Retyped-clause-faults c = grind (arith, common_steps)

pub returns-in-Retyped-clause-line : goal.returns-in-Retyped-clause-line
returns-in-Retyped-clause-line c = grind (arith, common_steps)

pub returns-in-Retyped-clause-scope : goal.returns-in-Retyped-clause-scope
returns-in-Retyped-clause-scope c = grind (arith, common_steps)

pub returns-in-RetypedValue-clause-faults : goal.returns-in-RetypedValue-clause-faults
returns-in-RetypedValue-clause-faults c = grind (arith, common_steps)

pub returns-in-RetypedValue-clause-line : goal.returns-in-RetypedValue-clause-line
returns-in-RetypedValue-clause-line c = grind (arith, common_steps)

pub returns-in-RetypedValue-clause-scope : goal.returns-in-RetypedValue-clause-scope
returns-in-RetypedValue-clause-scope c = grind (arith, common_steps)

pub returns-in_ok-compare_value-in-Value-clause-faults : goal.returns-in_ok-compare_value-in-Value-clause-faults
returns-in_ok-compare_value-in-Value-clause-faults c = grind (arith, common_steps)

pub returns-in_ok-compare_value-in-Value-clause-line : goal.returns-in_ok-compare_value-in-Value-clause-line
returns-in_ok-compare_value-in-Value-clause-line c = grind (arith, common_steps)

pub returns-in_ok-compare_value-in-Value-clause-scope : goal.returns-in_ok-compare_value-in-Value-clause-scope
returns-in_ok-compare_value-in-Value-clause-scope c = grind (arith, common_steps)

pub returns-in_err-compare_element-in-Abbreviation-clause-faults : goal.returns-in_err-compare_element-in-Abbreviation-clause-faults
returns-in_err-compare_element-in-Abbreviation-clause-faults c = grind (arith, common_steps)

pub returns-in_err-compare_element-in-Abbreviation-clause-line : goal.returns-in_err-compare_element-in-Abbreviation-clause-line
returns-in_err-compare_element-in-Abbreviation-clause-line c = grind (arith, common_steps)

pub returns-in_err-compare_element-in-Abbreviation-clause-scope : goal.returns-in_err-compare_element-in-Abbreviation-clause-scope
returns-in_err-compare_element-in-Abbreviation-clause-scope c = grind (arith, common_steps)

pub returns-in_err-compare_value-in-Value-clause-faults : goal.returns-in_err-compare_value-in-Value-clause-faults
returns-in_err-compare_value-in-Value-clause-faults c = grind (arith, common_steps)

pub returns-in_err-compare_value-in-Value-clause-line : goal.returns-in_err-compare_value-in-Value-clause-line
returns-in_err-compare_value-in-Value-clause-line c = grind (arith, common_steps)

pub returns-in_err-compare_value-in-Value-clause-scope : goal.returns-in_err-compare_value-in-Value-clause-scope
returns-in_err-compare_value-in-Value-clause-scope c = grind (arith, common_steps)
