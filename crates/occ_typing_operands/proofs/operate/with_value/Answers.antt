use Rattle.std.proofs.Common.{◌∙◌, sym}
use Rattle.occ_typing_operands.specs.Operators.{outcome_in}
use Rattle.occ_typing_operands.proofs.Runs as runs
use Rattle.occ_typing_operands.proofs.operate.with_value.Goals as goal

pub loop-next-preserved : goal.loop-next-preserved
loop-next-preserved c =
    runs.value_goes_on (outcome_in c.args.of) c.args.op c.loop-next.value c.in-Constant.constant c.in-Ok.folded c.in-Some.next.now c.in-Some.rest.now c.loop-next.others.now _
    c.in-Some.ensures.cases.0 (c.in-Constant.ensures) (sym c.fold.ensures ∙ c.in-Ok.is) c.loop-next.invariant

pub returns-in-Err : goal.returns-in-Err
returns-in-Err c =
    runs.value_is_lost (outcome_in c.args.of) c.args.op c.loop-next.value c.in-Constant.constant c.in-Err.field-0 c.in-Some.next.now c.in-Some.rest.now c.loop-next.others.now _ _
    c.in-Some.ensures.cases.0 (c.in-Constant.ensures) (sym c.fold.ensures ∙ c.in-Err.is) c.loop-next.invariant (c.without_value.ensures c.in-Constant.constant)

pub returns-in-Unfit : goal.returns-in-Unfit
returns-in-Unfit c =
    runs.meets_unfit (outcome_in c.args.of) c.loop-next.value _ c.in-Some.next.now c.in-Some.rest.now c.loop-next.others.now _
    c.in-Some.ensures.cases.0 c.in-Unfit.ensures c.loop-next.invariant

pub returns-in-Faulty : goal.returns-in-Faulty
returns-in-Faulty c =
    runs.meets_faulty (outcome_in c.args.of) c.loop-next.value c.in-Faulty.wrong _ c.in-Some.next.now c.in-Some.rest.now c.loop-next.others.now _ _
    c.in-Some.ensures.cases.0 c.in-Faulty.ensures c.loop-next.invariant c.worst_of.ensures

pub returns-in-Varying : goal.returns-in-Varying
returns-in-Varying c =
    runs.meets_varying (outcome_in c.args.of) c.loop-next.value _ c.in-Some.next.now c.in-Some.rest.now c.loop-next.others.now _ _
    c.in-Some.ensures.cases.0 c.in-Varying.ensures c.loop-next.invariant c.worst_of-in-Varying.ensures
