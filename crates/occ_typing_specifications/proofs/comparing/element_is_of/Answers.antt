use Rattle.occ_expr_operations.specs.declared.written.Opening.TheVariants as opening
use Rattle.occ_typing_specifications.proofs.Named.{element_of}
use Rattle.occ_typing_specifications.proofs.comparing.element_is_of.Goals as goal

pub returns : goal.returns
returns c to x is_taken found known =
    element_of c.args.scope.now c.args.of.now c.in-Some-Some.of.now opening.Allowed 0 c.args.element.now c.in-Some-Some.name.now to x c.in-Some-Some.ensures c.in-Some-Some.ensures'
    (c.is_known_to_take.ensures is_taken) found known
