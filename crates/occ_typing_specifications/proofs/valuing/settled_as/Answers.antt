use Rattle.std.proofs.Common.{rules, ◌≡◌, ◌∙◌, IsTrue, true, ap, sym}
use Rattle.occ_types.specs.Fits.{is_data}
use Rattle.occ_typing_rules.specs.Abbreviating.{as_type}
use Rattle.occ_typing_tables.specs.declared.term.Term.TheVariants as v
use Rattle.occ_typing_specifications.proofs.Named.{value_of}
use Rattle.occ_typing_specifications.proofs.valuing.settled_as.Goals as goal

pub returns-in-Known : goal.returns-in-Known
returns-in-Known c =
    let known : IsTrue c.args.is_known = search rules in
    let holds : is_data c.args.of.now ≡ true = search rules in
    value_of c.args.of.now c.args.term.now c.in-Known.field-0 holds (c.in-Single.is ∙ ap v.Single c.in-Known.is) (c.requires known)
    ∙ ap (as_type c.args.of.now) (sym c.in-Known.is)
