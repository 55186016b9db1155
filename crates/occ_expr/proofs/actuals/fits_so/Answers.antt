use Rattle.std.proofs.Common.{ap, sym, subst, ◌∙◌}
use Rattle.occ_typing_tables.specs.declared.term.Term.TheVariants as v
use Rattle.occ_expr.specs.inside.Passing.{IsKnownOf}
use Rattle.occ_expr.proofs.Passing.{known_fits}
use Rattle.occ_expr.proofs.actuals.fits_so.Goals as goal

pub returns-then-takes_long-clause-faults : goal.returns-then-takes_long-clause-faults
returns-then-takes_long-clause-faults c taken =
    (known_fits c.args.of.now c.in-Known.field-0 c.args.term.now (c.in-Single.is ∙ ap v.Single c.in-Known.is) (subst (IsKnownOf c.args.of.now) (sym c.requires.read) (c.is_taken.ensures c.args.of.now c.requires.formal taken))).0

pub returns-then-takes_long-clause-kind : goal.returns-then-takes_long-clause-kind
returns-then-takes_long-clause-kind c taken =
    (known_fits c.args.of.now c.in-Known.field-0 c.args.term.now (c.in-Single.is ∙ ap v.Single c.in-Known.is) (subst (IsKnownOf c.args.of.now) (sym c.requires.read) (c.is_taken.ensures c.args.of.now c.requires.formal taken))).1
