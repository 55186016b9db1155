use Rattle.std.proofs.Common.{arith, ◌≡◌, ◌∷◌, ◌++◌, ◌+◌, ◌∙◌, List, ap, drop, sym}
use Rattle.std.proofs.lemmas.List.{drop_more}
use Rattle.occ_forms.specs.declared.tree.InputItem.{InputItem}
use Rattle.occ_base.specs.Lists.{joined}
use Rattle.occ_typing_statements.specs.Receiving.{item_received, items_received, givens, received_faults, received_trees}
use Rattle.occ_typing_statements.proofs.Both.{step_received}
use Rattle.occ_typing_statements.proofs.receiving.items_received.Goals as goal

pub loop-item-preserved : goal.loop-item-preserved
loop-item-preserved c =
    let s = c.args.scope.now in
    let i = c.loop-item.item-index in
    let xs = c.args.items.now in
    let x = c.item-item.result in
    let rest = drop (i + 1) xs in
    let l = c.loop-item in
    let next : drop i xs ≡ x ∷ rest = drop_more xs i x (omega arith) ∙ ap (λ (z : InputItem). z ∷ rest) (sym c.item-item.is) in
    step_received (item_received s x) (items_received s rest) _ _ _ _ _ _ _ _ _ _ _
    c.in_ok-one.ensures.given
    c.in_ok-one.ensures.tree
    c.in_ok-all.ensures.givens
    c.in_ok-all.ensures.trees
    c.in_ok-one.ensures.faults
    (ap (λ (z : List InputItem). l.all.givens ++ givens (items_received s z)) (sym next) ∙ l.invariant.0)
    (ap (λ (z : List InputItem). joined l.all.trees (received_trees (items_received s z))) (sym next) ∙ l.invariant.1)
    (ap (λ (z : List InputItem). l.faults ++ received_faults (items_received s z)) (sym next) ∙ l.invariant.2)
