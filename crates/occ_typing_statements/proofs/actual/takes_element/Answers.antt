use Rattle.occ_typing_statements.proofs.Taking.{element_taken}
use Rattle.occ_typing_statements.proofs.actual.takes_element.Goals as goal

pub returns-clause-takes : goal.returns-clause-takes
returns-clause-takes c takes =
    element_taken c.args.scope.now c.args.element.now c.in-Some.name.now c.args.of.now c.in-Some.ensures (c.in_ok-takes.ensures.takes takes)
