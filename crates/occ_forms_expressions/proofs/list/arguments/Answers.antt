use Rattle.std.proofs.Common.{◌≡◌, ◌∙◌, List, [], ◌∷◌, ap, sym}
use Rattle.occ_lines.specs.declared.token.Symbol.TheVariants as s
use Rattle.occ_lines.specs.declared.token.Token.{Token}
use Rattle.occ_lines.specs.declared.token.Token.TheVariants as t
use Rattle.occ_forms_expressions.specs.declared.tree.Expr.{Expr}
use Rattle.occ_forms_expressions.specs.Spelling.{arguments_of, expr_then, many, next_item_of}
use Rattle.occ_forms_expressions.proofs.Arguments.{all_arguments, no_arguments, no_close, no_first, no_more}
use Rattle.occ_forms_expressions.proofs.Lists.{first_and_more}
use Rattle.occ_forms_expressions.proofs.list.arguments.Goals as goal

no_arguments_found : (none : List Expr) (tokens rest : List Token) → none ≡ [] → tokens ≡ t.Symbol s.Close ∷ rest → t.Symbol s.Open ∷ tokens ≡ arguments_of none rest
no_arguments_found none tokens rest empty is = ap (λ (z : List Token). t.Symbol s.Open ∷ z) is ∙ ap (λ (es : List Expr). arguments_of es rest) (sym empty)

all_arguments_found : (tokens : List Token) (first : Expr) (rest : List Token) (more : List Expr) (left end : List Token) (all : List Expr) → tokens ≡ expr_then first rest → rest ≡ many next_item_of more left
    → left ≡ t.Symbol s.Close ∷ end → all ≡ first ∷ more → t.Symbol s.Open ∷ tokens ≡ arguments_of all end
all_arguments_found tokens first rest more left end all one list closed joined =
    ap (λ (z : List Token). t.Symbol s.Open ∷ z) (one ∙ ap (λ (z : List Token). expr_then first z) (list ∙ ap (λ (z : List Token). many next_item_of more z) closed))
    ∙ ap (λ (es : List Expr). arguments_of es end) (sym joined)

pub returns-in-Some-clause-found : goal.returns-in-Some-clause-found
returns-in-Some-clause-found g c = no_arguments_found _ _ _ c.new.ensures c.in-Some.ensures

pub returns-in-Some-clause-only : goal.returns-in-Some-clause-only
returns-in-Some-clause-only g c = no_arguments _ _ _ c.new.ensures c.in-Some.ensures

pub returns-in_default-2-clause-only : goal.returns-in_default-2-clause-only
returns-in_default-2-clause-only g c = no_first _ c.in_default.ensures (rw c.in_default-2.is at (c.requires.inner.only _ _ _ c.in_ok-first.ensures))

pub returns-in_default-3-clause-only : goal.returns-in_default-3-clause-only
returns-in_default-3-clause-only g c = no_more _ _ _ c.in_default.ensures (rw c.in-Some-2.is at (c.requires.inner.only _ _ _ c.in_ok-first.ensures)) (rw c.in_default-3.is at c.in_ok-more.ensures.only)

pub returns-in_default-after-clause-only : goal.returns-in_default-after-clause-only
returns-in_default-after-clause-only g c = no_close _ _ _ _ _ c.in_default.ensures (rw c.in-Some-2.is at (c.requires.inner.only _ _ _ c.in_ok-first.ensures)) (rw c.in-Some-3.is at c.in_ok-more.ensures.only) c.in_default-after.ensures

pub returns-clause-only : goal.returns-clause-only
returns-clause-only g c = all_arguments _ _ _ _ _ _ _ c.in_default.ensures (rw c.in-Some-2.is at (c.requires.inner.only _ _ _ c.in_ok-first.ensures)) (rw c.in-Some-3.is at c.in_ok-more.ensures.only) c.in-Some-after.ensures (first_and_more _ _ _ _ _ c.new-found.ensures c.in_ok-push.ensures.ok c.in_ok-append.ensures)

pub returns-clause-found : goal.returns-clause-found
returns-clause-found g c = all_arguments_found _ _ _ _ _ _ _ (rw c.in-Some-2.is at (c.requires.inner.found _ _ _ c.in_ok-first.ensures)) (rw c.in-Some-3.is at c.in_ok-more.ensures.found) c.in-Some-after.ensures (first_and_more _ _ _ _ _ c.new-found.ensures c.in_ok-push.ensures.ok c.in_ok-append.ensures)
