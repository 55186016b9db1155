use Rattle.std.proofs.Common.{arith}
use Rattle.std.proofs.lemmas.Grind.{common_steps}
use Rattle.occ_forms_expressions.proofs.Dimensions.{builtin_found, named_found}
use Rattle.occ_forms_expressions.proofs.types.type_after.Goals as goal

pub returns-in-Some-clause-found : goal.returns-in-Some-clause-found
returns-in-Some-clause-found g c = named_found _ _ _ _ (rw c.in-Some.is at c.in_ok-name.ensures)

pub returns-clause-found : goal.returns-clause-found
returns-clause-found g c = builtin_found _ _ _ _ _ _ c.dimensions.view_is c.in_ok-new.ensures (rw c.in-Some-2.is at c.in_ok-builtin.ensures.found)

pub returns-clause-shorter : goal.returns-clause-shorter
returns-clause-shorter g c = grind (arith, common_steps)

pub returns-in_default-2-clause-found : goal.returns-in_default-2-clause-found
returns-in_default-2-clause-found g c = grind (arith, common_steps)

pub returns-in_default-2-clause-shorter : goal.returns-in_default-2-clause-shorter
returns-in_default-2-clause-shorter g c = grind (arith, common_steps)

pub returns-in-Some-clause-shorter : goal.returns-in-Some-clause-shorter
returns-in-Some-clause-shorter g c = grind (arith, common_steps)
