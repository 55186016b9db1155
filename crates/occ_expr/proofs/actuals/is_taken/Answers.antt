use Rattle.std.proofs.Common.{sym, ◌∙◌}
use Rattle.occ_expr.proofs.Passing.{name_known}
use Rattle.occ_expr.proofs.actuals.is_taken.Goals as goal

pub returns-in-Some : goal.returns-in-Some
returns-in-Some c of formal takes =
    name_known c.args.scope.now c.in-Some.name.now of c.args.expr.now c.in-Some.ensures (sym (c.is_known_to_take.ensures takes) ∙ formal)
