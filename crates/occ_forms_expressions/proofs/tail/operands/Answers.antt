use Rattle.occ_forms_expressions.specs.Reading.{IsAfter, IsEndOfRun}
use Rattle.occ_forms_expressions.specs.Spelling.{operated_of}
use Rattle.occ_forms_expressions.proofs.Lists.{following, after_same, shorter_after}
use Rattle.occ_forms_expressions.proofs.Many.{fails, goes_on, is_done}
use Rattle.occ_forms_expressions.proofs.Tailed.{operator_within, run_no_end_at}
use Rattle.occ_forms_expressions.proofs.tail.operands.Goals as goal

pub returns-in_default-2-clause-only : goal.returns-in_default-2-clause-only
returns-in_default-2-clause-only g c = fails (operated_of c.args.operator) IsAfter IsEndOfRun (operator_within c.args.operator) _ _ _ c.loop-begun.invariant (run_no_end_at _ _ _ c.in-Some.ensures)
    (λ y k ends e. rw c.in_default-2.is at c.in_ok-one.ensures.only y k ends (after_same _ _ _ _ c.in-Some.ensures e))

pub loop-begun-preserved : goal.loop-begun-preserved
loop-begun-preserved g c = rw c.in_ok-push.ensures.ok (goes_on (operated_of c.args.operator) IsAfter IsEndOfRun (operator_within c.args.operator) _ _ _ _ _ c.loop-begun.invariant
    (following _ _ _ _ c.in-Some.ensures (rw c.in-Some-2.is at c.in_ok-one.ensures.found))
    (shorter_after _ _ _ _ c.in-Some.ensures (rw c.in-Some-2.is at c.in_ok-one.ensures.shorter)) (run_no_end_at _ _ _ c.in-Some.ensures)
    (λ y k ends e. rw c.in-Some-2.is at c.in_ok-one.ensures.only y k ends (after_same _ _ _ _ c.in-Some.ensures e)))

pub returns-clause-only : goal.returns-clause-only
returns-clause-only g c = is_done (operated_of c.args.operator) IsAfter IsEndOfRun (operator_within c.args.operator) _ _ _ c.loop-begun.invariant (λ y k ends e. c.in_default.ensures _ e)
