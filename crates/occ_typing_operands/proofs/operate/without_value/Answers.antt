use Rattle.std.proofs.lemmas.List.{nil_from_length}
use Rattle.occ_typing_operands.specs.declared.kind.TypedValue.TheVariants as o
use Rattle.occ_typing_operands.specs.declared.kind.Wrong.TheVariants as w
use Rattle.occ_typing_operands.specs.Operators.{outcome_in}
use Rattle.occ_typing_operands.proofs.Runs as runs
use Rattle.occ_typing_operands.proofs.operate.without_value.Goals as goal

pub loop-next-preserved : goal.loop-next-preserved
loop-next-preserved c value =
    runs.none_goes_on (outcome_in c.args.of) value c.in-Constant.field-0 (o.Faulty w.Value) c.in-Some.next.now c.in-Some.rest.now c.loop-next.others.now _
    c.in-Some.ensures.cases.0 c.in-Constant.ensures (c.loop-next.invariant value)

pub returns-in-Unfit : goal.returns-in-Unfit
returns-in-Unfit c value =
    runs.meets_unfit (outcome_in c.args.of) value (o.Faulty w.Value) c.in-Some.next.now c.in-Some.rest.now c.loop-next.others.now _
    c.in-Some.ensures.cases.0 c.in-Unfit.ensures (c.loop-next.invariant value)

pub returns-in-Faulty : goal.returns-in-Faulty
returns-in-Faulty c value =
    runs.meets_faulty (outcome_in c.args.of) value c.in-Faulty.wrong (o.Faulty w.Value) c.in-Some.next.now c.in-Some.rest.now c.loop-next.others.now _ _
    c.in-Some.ensures.cases.0 c.in-Faulty.ensures (c.loop-next.invariant value) c.worst_of.ensures

pub returns-in-Varying : goal.returns-in-Varying
returns-in-Varying c value =
    runs.meets_varying (outcome_in c.args.of) value (o.Faulty w.Value) c.in-Some.next.now c.in-Some.rest.now c.loop-next.others.now _ _
    c.in-Some.ensures.cases.0 c.in-Varying.ensures (c.loop-next.invariant value) c.worst_of-in-Varying.ensures

pub returns : goal.returns
returns c value =
    runs.none_ends (outcome_in c.args.of) value (o.Faulty w.Value) c.loop-next.others.now _ (nil_from_length c.loop-next.others.now c.in_default.ensures.cases) (c.loop-next.invariant value)
