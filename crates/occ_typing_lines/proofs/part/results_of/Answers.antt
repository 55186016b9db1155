use Rattle.std.proofs.Common.{arith}
use Rattle.std.proofs.lemmas.Grind.{common_steps}
use Rattle.occ_typing_lines.proofs.part.results_of.Goals as goal

pub returns-in-Types-clause-faults : goal.returns-in-Types-clause-faults
returns-in-Types-clause-faults c = grind (arith, common_steps)

pub returns-in-Types-clause-faulty : goal.returns-in-Types-clause-faulty
returns-in-Types-clause-faulty c = grind (arith, common_steps)

pub returns-in-Types-clause-trees : goal.returns-in-Types-clause-trees
returns-in-Types-clause-trees c = grind (arith, common_steps)

pub returns-in_ok-faulty-in-Count-clause-faults : goal.returns-in_ok-faulty-in-Count-clause-faults
returns-in_ok-faulty-in-Count-clause-faults c = grind (arith, common_steps)

pub returns-in_ok-faulty-in-Count-clause-faulty : goal.returns-in_ok-faulty-in-Count-clause-faulty
returns-in_ok-faulty-in-Count-clause-faulty c = grind (arith, common_steps)

pub returns-in_ok-faulty-in-Count-clause-trees : goal.returns-in_ok-faulty-in-Count-clause-trees
returns-in_ok-faulty-in-Count-clause-trees c = grind (arith, common_steps)
