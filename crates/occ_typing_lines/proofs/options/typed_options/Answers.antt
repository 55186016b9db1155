use Rattle.std.proofs.Common.{◌≡◌, ◌∙◌, ◌++◌, ◌∷◌, IfSome, List, Option, Some, ap, subst, sym}
use Rattle.occ_base.specs.declared.fault.Fault.{Fault}
use Rattle.occ_expr_operations.specs.Parts.{terms}
use Rattle.occ_forms.specs.declared.tree.Form.{Form}
use Rattle.occ_scope.specs.declared.scope.Scope.{Scope}
use Rattle.occ_types.specs.declared.types.OccType.{OccType}
use Rattle.occ_typing_lines.specs.inside.Decimals.{AreDecimals, decimal_trees, expressions_in}
use Rattle.occ_typing_lines.proofs.Decimals.{silent, trees_of}
use Rattle.occ_typing_lines.proofs.options.typed_options.Goals as goal
use Rattle.occ_typing_operands.specs.declared.kind.Kind.{Kind}
use Rattle.occ_typing_rules.specs.Choosing.{options as chosen}
use Rattle.occ_typing_statements.specs.StatementTrees.{options_trees}
use Rattle.occ_typing_statements.specs.Statements.{options, said}
use Rattle.occ_typing_tables.specs.Terms.{judged_all}
use Rattle.occ_typing_tables.specs.declared.term.Term.{Term}

pub returns-clause-trees : goal.returns-clause-trees
returns-clause-trees c =
    let es = c.args.first.now ∷ c.args.more.now in
    let decimals : AreDecimals es = subst (λ (o : Option (List Term)). IfSome o (λ r. AreDecimals es)) c.in-Some.is c.in_ok-terms.ensures.decimals in
    ap (λ (f : Form). Some (decimal_trees c.in_ok-share-2.field-0 (expressions_in f))) (c.in_ok-share.ensures ∙ c.requires)
    ∙ ap (λ (of : OccType). Some (decimal_trees of es)) c.in_ok-share-2.ensures
    ∙ sym (trees_of c.args.scope.now c.in-Known.known.of es decimals)
    ∙ ap (λ (k : Kind). options_trees c.args.scope.now k es) (sym c.in-Known.is)

pub returns-clause-faults : goal.returns-clause-faults
returns-clause-faults c =
    let es = c.args.first.now ∷ c.args.more.now in
    let s = c.args.scope.now in
    let of = c.in-Known.known.of in
    let decimals : AreDecimals es = subst (λ (o : Option (List Term)). IfSome o (λ r. AreDecimals es)) c.in-Some.is c.in_ok-terms.ensures.decimals in
    let read = subst (λ (o : Option (List Term)). IfSome o (λ r. (s' : Scope) → r ≡ terms (said s' es))) c.in-Some.is c.in_ok-terms.ensures.terms in
    c.in_ok-options.ensures.faults
    ∙ ap (λ (xs : List Term). c.args.faults.now ++ (chosen of c.args.before.now (judged_all xs)).faults) (c.as_slice.ensures ∙ read s)
    ∙ ap (λ (fs : List Fault). c.args.faults.now ++ (fs ++ (chosen of c.args.before.now (judged_all (terms (said s es)))).faults)) (sym (silent s es decimals))
    ∙ ap (λ (k : Kind). c.args.faults.now ++ (options s k c.args.before.now es).faults) (sym c.in-Known.is)
