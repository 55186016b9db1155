use Rattle.std.proofs.Common.{arith}
use Rattle.std.proofs.lemmas.Grind.{common_steps}
use Rattle.occ_typing_statements.proofs.inputs.input.Goals as goal

pub returns-in-After-clause-faults : goal.returns-in-After-clause-faults
returns-in-After-clause-faults c = grind (arith, common_steps)

pub returns-in-After-clause-tree : goal.returns-in-After-clause-tree
returns-in-After-clause-tree c = grind (arith, common_steps)

pub returns-in-Plain-clause-faults : goal.returns-in-Plain-clause-faults
returns-in-Plain-clause-faults c = grind (arith, common_steps)

pub returns-in-Plain-clause-tree : goal.returns-in-Plain-clause-tree
returns-in-Plain-clause-tree c = grind (arith, common_steps)

pub returns-in-Tagged-clause-faults : goal.returns-in-Tagged-clause-faults
returns-in-Tagged-clause-faults c = grind (arith, common_steps)

pub returns-in-Tagged-clause-tree : goal.returns-in-Tagged-clause-tree
returns-in-Tagged-clause-tree c = grind (arith, common_steps)
