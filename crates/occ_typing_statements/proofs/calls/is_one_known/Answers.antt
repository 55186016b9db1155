use Rattle.std.proofs.Common.{rules, ap, sym, ◌≡◌, ◌∙◌, List, [], ◌∷◌}
use Rattle.occ_typing_tables.specs.declared.term.Term.{Term}
use Rattle.occ_typing_tables.specs.declared.term.Term.TheVariants as v
use Rattle.occ_typing_statements.proofs.Given.{none_left}
use Rattle.occ_typing_statements.proofs.calls.is_one_known.Goals as goal

pub returns-in-Known : goal.returns-in-Known
returns-in-Known c known =
    let whole : c.args.terms.now ≡ c.in-Some.term.now ∷ c.in-Some.more.now = search rules in
    let alone : c.in-Some.more.now ≡ [] = none_left c.in-Some.more.now (sym c.is_empty.ensures ∙ c.if-not-is_empty.false) in
    record {
      known = c.in-Known.field-0;
      is = whole ∙ ap (λ (ts : List Term). c.in-Some.term.now ∷ ts) alone ∙ ap (λ (t : Term). t ∷ []) (c.in-Single.is ∙ ap v.Single c.in-Known.is);
    }
