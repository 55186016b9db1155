use Rattle.occ_typing_statements.proofs.Taking.{value_taken}
use Rattle.occ_typing_statements.proofs.actual.takes_value.Goals as goal

pub returns-clause-takes : goal.returns-clause-takes
returns-clause-takes c takes =
    value_taken c.args.scope.now c.args.expr.now c.in-Some.name.now c.args.of.now c.in-Some.ensures (c.in_ok-takes.ensures.takes takes)
