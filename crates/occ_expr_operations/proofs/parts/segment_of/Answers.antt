use Rattle.std.proofs.Common.{arith}
use Rattle.std.proofs.lemmas.Grind.{common_steps}
use Rattle.occ_expr_operations.specs.Parts.{segment_of}
use Rattle.occ_expr_operations.proofs.parts.segment_of.Goals as goal

pub returns-in-Known-clause-faults : goal.returns-in-Known-clause-faults
unfolding segment_of
returns-in-Known-clause-faults c = grind (arith, common_steps)

pub returns-in-Known-clause-kind : goal.returns-in-Known-clause-kind
unfolding segment_of
returns-in-Known-clause-kind c = grind (arith, common_steps)

pub returns-in_ok-bounds_alone-in-Faulty-clause-faults : goal.returns-in_ok-bounds_alone-in-Faulty-clause-faults
unfolding segment_of
returns-in_ok-bounds_alone-in-Faulty-clause-faults c = grind (arith, common_steps)

pub returns-in_ok-bounds_alone-in-Faulty-clause-kind : goal.returns-in_ok-bounds_alone-in-Faulty-clause-kind
unfolding segment_of
returns-in_ok-bounds_alone-in-Faulty-clause-kind c = grind (arith, common_steps)

pub returns-in_ok-bounds_alone-in-Untyped-clause-faults : goal.returns-in_ok-bounds_alone-in-Untyped-clause-faults
unfolding segment_of
returns-in_ok-bounds_alone-in-Untyped-clause-faults c = grind (arith, common_steps)

pub returns-in_ok-bounds_alone-in-Untyped-clause-kind : goal.returns-in_ok-bounds_alone-in-Untyped-clause-kind
unfolding segment_of
returns-in_ok-bounds_alone-in-Untyped-clause-kind c = grind (arith, common_steps)
