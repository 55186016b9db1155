use Rattle.std.proofs.Common.{arith}
use Rattle.std.proofs.lemmas.Grind.{common_steps}
use Rattle.occ_base.proofs.Fronts.{front_rules}
use Rattle.occ_typing_statements.proofs.receiving.detail_received.Goals as goal

pub returns-in-Array-clause-faults : goal.returns-in-Array-clause-faults
returns-in-Array-clause-faults c = grind (arith, common_steps, front_rules)

pub returns-in-Array-clause-given : goal.returns-in-Array-clause-given
returns-in-Array-clause-given c = grind (arith, common_steps, front_rules)

pub returns-in-Array-clause-tree : goal.returns-in-Array-clause-tree
returns-in-Array-clause-tree c = grind (arith, common_steps, front_rules)

pub returns-in-Builtin-clause-faults : goal.returns-in-Builtin-clause-faults
returns-in-Builtin-clause-faults c = grind (arith, common_steps, front_rules)

pub returns-in-Builtin-clause-given : goal.returns-in-Builtin-clause-given
returns-in-Builtin-clause-given c = grind (arith, common_steps, front_rules)

pub returns-in-Builtin-clause-tree : goal.returns-in-Builtin-clause-tree
returns-in-Builtin-clause-tree c = grind (arith, common_steps, front_rules)

pub returns-in-Counted-clause-faults : goal.returns-in-Counted-clause-faults
returns-in-Counted-clause-faults c = grind (arith, common_steps, front_rules)

pub returns-in-Counted-clause-given : goal.returns-in-Counted-clause-given
returns-in-Counted-clause-given c = grind (arith, common_steps, front_rules)

pub returns-in-Counted-clause-tree : goal.returns-in-Counted-clause-tree
returns-in-Counted-clause-tree c = grind (arith, common_steps, front_rules)

pub returns-in-CountedType-clause-faults : goal.returns-in-CountedType-clause-faults
returns-in-CountedType-clause-faults c = grind (arith, common_steps, front_rules)

pub returns-in-CountedType-clause-given : goal.returns-in-CountedType-clause-given
returns-in-CountedType-clause-given c = grind (arith, common_steps, front_rules)

pub returns-in-CountedType-clause-tree : goal.returns-in-CountedType-clause-tree
returns-in-CountedType-clause-tree c = grind (arith, common_steps, front_rules)

pub returns-in-Element-clause-faults : goal.returns-in-Element-clause-faults
returns-in-Element-clause-faults c = grind (arith, common_steps, front_rules)

pub returns-in-Element-clause-given : goal.returns-in-Element-clause-given
returns-in-Element-clause-given c = grind (arith, common_steps, front_rules)

pub returns-in-Element-clause-tree : goal.returns-in-Element-clause-tree
returns-in-Element-clause-tree c = grind (arith, common_steps, front_rules)
