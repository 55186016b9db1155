use Rattle.std.proofs.Common.{rules, ◌≡◌, true}
use Rattle.occ_types.specs.Fits.{is_data}
use Rattle.occ_typing_operands.specs.declared.kind.Kind.TheVariants as k
use Rattle.occ_typing_statements.proofs.Named.{value_of_one_type}
use Rattle.occ_typing_statements.proofs.statement.fits_by_name.Goals as goal

pub returns-clause-fits : goal.returns-clause-fits
returns-clause-fits c fits =
    let known : c.args.kind.now ≡ k.Known c.in-Known.known = search rules in
    let holds : is_data c.in-Known.known.of ≡ true = search rules in
    value_of_one_type c.args.scope.now c.args.target.now c.in-Some-Some.target.now c.args.value.now c.in-Some-Some.value.now c.args.kind.now c.in-Known.known
    c.in-Some-Some.ensures c.in-Some-Some.ensures' c.requires known holds (c.in_ok-fits.ensures.same fits)
