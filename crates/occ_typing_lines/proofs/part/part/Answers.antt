use Rattle.std.proofs.Common.{arith}
use Rattle.std.proofs.lemmas.Grind.{common_steps}
use Rattle.occ_typing_lines.proofs.part.part.Goals as goal

pub returns-in-Else-clause-faults : goal.returns-in-Else-clause-faults
returns-in-Else-clause-faults c = grind (arith, common_steps)

pub returns-in-Else-clause-line : goal.returns-in-Else-clause-line
returns-in-Else-clause-line c = grind (arith, common_steps)

pub returns-in-Guard-clause-faults : goal.returns-in-Guard-clause-faults
returns-in-Guard-clause-faults c = grind (arith, common_steps)

pub returns-in-Guard-clause-line : goal.returns-in-Guard-clause-line
returns-in-Guard-clause-line c = grind (arith, common_steps)

pub returns-in-PackedRecord-clause-faults : goal.returns-in-PackedRecord-clause-faults
returns-in-PackedRecord-clause-faults c = grind (arith, common_steps)

pub returns-in-PackedRecord-clause-line : goal.returns-in-PackedRecord-clause-line
returns-in-PackedRecord-clause-line c = grind (arith, common_steps)

pub returns-in-Record-clause-faults : goal.returns-in-Record-clause-faults
returns-in-Record-clause-faults c = grind (arith, common_steps)

pub returns-in-Record-clause-line : goal.returns-in-Record-clause-line
returns-in-Record-clause-line c = grind (arith, common_steps)

pub returns-in-Result-clause-faults : goal.returns-in-Result-clause-faults
returns-in-Result-clause-faults c = grind (arith, common_steps)

pub returns-in-Result-clause-line : goal.returns-in-Result-clause-line
returns-in-Result-clause-line c = grind (arith, common_steps)

pub returns-in-ValueOf-clause-faults : goal.returns-in-ValueOf-clause-faults
returns-in-ValueOf-clause-faults c = grind (arith, common_steps)

pub returns-in-ValueOf-clause-line : goal.returns-in-ValueOf-clause-line
returns-in-ValueOf-clause-line c = grind (arith, common_steps)

pub returns-in_ok-report-in-Case-clause-faults : goal.returns-in_ok-report-in-Case-clause-faults
returns-in_ok-report-in-Case-clause-faults c = grind (arith, common_steps)

pub returns-in_ok-report-in-Case-clause-line : goal.returns-in_ok-report-in-Case-clause-line
returns-in_ok-report-in-Case-clause-line c = grind (arith, common_steps)
