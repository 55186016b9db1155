use Rattle.std.proofs.Common.{rules, ap, sym, ◌≡◌, ◌∙◌, true}
use Rattle.occ_scope.specs.Elements.{formal_of, type_of}
use Rattle.occ_scope.specs.Visible.{visible}
use Rattle.occ_types.specs.Fits.{is_data}
use Rattle.occ_typing_operands.specs.declared.kind.Kind.TheVariants as k
use Rattle.occ_typing_statements.specs.inside.Given.{IsOneKnown}
use Rattle.occ_typing_statements.proofs.Given.{value_given}
use Rattle.occ_typing_statements.proofs.statement.is_given.Goals as goal

pub returns-clause-given : goal.returns-clause-given
returns-clause-given c given =
    let known : c.args.kind.now ≡ k.Known c.in-Known.known = search rules in
    let holds : is_data c.in-Known.known.of ≡ true = search rules in
    let one : IsOneKnown c.args.terms.now = c.is_one_known.ensures c.if-not-is_one_known.false in
    let place = c.in-Some.ensures in
    let taken : formal_of (visible c.args.scope.now c.in-Some-Some.callee.now) c.in-Some.place ≡ type_of (visible c.args.scope.now c.in-Some-Some.name.now) = c.in_ok-given.ensures.same given in
    value_given c.args.scope.now c.args.target.now c.in-Some-Some.name.now c.args.value.now c.in-Some-Some.callee.now c.in-Some-Some.field-0-1-1.now place.formals place.results c.args.kind.now c.in-Known.known c.args.terms.now one.known
    c.in-Some-Some.ensures c.in-Some-Some.ensures' place.is c.requires.kind known holds c.requires.terms one.is
    (ap (formal_of (visible c.args.scope.now c.in-Some-Some.callee.now)) (sym place.behind) ∙ taken)
