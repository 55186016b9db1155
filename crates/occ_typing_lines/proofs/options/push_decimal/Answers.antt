use Rattle.std.proofs.Common.{◌∙◌, ◌++◌, ◌∷◌, [], List, ap, sym}
use Rattle.occ_typing_lines.proofs.Decimals.{one_term}
use Rattle.occ_typing_lines.proofs.options.push_decimal.Goals as goal
use Rattle.occ_typing_operands.specs.declared.kind.Kind.TheVariants as kind
use Rattle.occ_typing_operands.specs.declared.kind.Untyped.{Untyped}
use Rattle.occ_typing_tables.specs.declared.term.Term.{Term}
use Rattle.occ_typing_tables.specs.declared.term.Term.TheVariants as term

pub returns-clause-terms : goal.returns-clause-terms
returns-clause-terms c h s =
    c.in_ok-push.ensures.ok
    ∙ ap (λ (u : Untyped). c.args.terms.now ++ term.Single (kind.Untyped u) ∷ []) c.decimal-constant.ensures
    ∙ ap (λ (xs : List Term). c.args.terms.now ++ xs) (sym (one_term c.args.expr.now s c.in-Some.n c.in-Some.ensures))
