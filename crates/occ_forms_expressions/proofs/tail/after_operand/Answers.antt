use Rattle.occ_forms_expressions.proofs.Tailed.{boxed_read, no_more_operands, no_second, nothing_only, pair_only, run_only}
use Rattle.occ_forms_expressions.proofs.tail.after_operand.Goals as goal

pub returns-in_default-clause-only : goal.returns-in_default-clause-only
returns-in_default-clause-only g c = nothing_only _ c.in_default.ensures

pub returns-in_default-2-clause-only : goal.returns-in_default-2-clause-only
returns-in_default-2-clause-only g c = no_second _ _ _ c.in-Some.ensures (rw c.in_default-2.is at c.in_ok-second.ensures.only)

pub returns-in-Pair-clause-only : goal.returns-in-Pair-clause-only
returns-in-Pair-clause-only g c = pair_only _ _ _ _ _ _ c.in-Some.ensures c.in-Pair.is (boxed_read _ _ _ _ c.in_ok-second-2.ensures (rw c.in-Some-2.is at c.in_ok-second.ensures.only))

pub returns-in_default-3-clause-only : goal.returns-in_default-3-clause-only
returns-in_default-3-clause-only g c = no_more_operands _ _ _ _ _ _ c.in-Some.ensures c.in-Run.is (rw c.in-Some-2.is at c.in_ok-second.ensures.only) (rw c.in_default-3.is at c.in_ok-more-in-Run.ensures.only)

pub returns-in-Some-3-clause-only : goal.returns-in-Some-3-clause-only
returns-in-Some-3-clause-only g c = run_only _ _ _ _ _ _ _ _ c.in-Some.ensures c.in-Run.is (boxed_read _ _ _ _ c.in_ok-second-2.ensures (rw c.in-Some-2.is at c.in_ok-second.ensures.only)) (rw c.in-Some-3.is at c.in_ok-more-in-Run.ensures.only)
