use Rattle.occ_expr_operations.specs.declared.written.Opening.TheVariants as opening
use Rattle.occ_typing_specifications.proofs.Named.{written}
use Rattle.occ_typing_specifications.proofs.comparing.value_is_of.Goals as goal

pub returns : goal.returns
returns c to taken found = c.is_taken.ensures to (written c.args.scope.now c.args.of.now c.in-Some.of.now opening.Allowed 0 to c.in-Some.ensures found) taken
