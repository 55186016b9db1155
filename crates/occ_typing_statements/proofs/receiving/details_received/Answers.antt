use Rattle.std.proofs.Common.{arith, ◌≡◌, ◌∷◌, ◌++◌, ◌+◌, ◌∙◌, List, ap, drop, sym}
use Rattle.std.proofs.lemmas.List.{drop_more}
use Rattle.occ_forms.specs.declared.tree.Detail.{Detail}
use Rattle.occ_base.specs.Lists.{joined}
use Rattle.occ_typing_statements.specs.Receiving.{detail_received, details_received, givens, received_faults, received_trees}
use Rattle.occ_typing_statements.proofs.Both.{step_received}
use Rattle.occ_typing_statements.proofs.receiving.details_received.Goals as goal

pub loop-detail-preserved : goal.loop-detail-preserved
loop-detail-preserved c =
    let s = c.args.scope.now in
    let i = c.loop-detail.detail-index in
    let xs = c.args.details.now in
    let x = c.detail-item.result in
    let rest = drop (i + 1) xs in
    let l = c.loop-detail in
    let next : drop i xs ≡ x ∷ rest = drop_more xs i x (omega arith) ∙ ap (λ (z : Detail). z ∷ rest) (sym c.detail-item.is) in
    step_received (detail_received s x) (details_received s rest) _ _ _ _ _ _ _ _ _ _ _
    c.in_ok-one.ensures.given
    c.in_ok-one.ensures.tree
    c.in_ok-all.ensures.givens
    c.in_ok-all.ensures.trees
    c.in_ok-one.ensures.faults
    (ap (λ (z : List Detail). l.all.givens ++ givens (details_received s z)) (sym next) ∙ l.invariant.0)
    (ap (λ (z : List Detail). joined l.all.trees (received_trees (details_received s z))) (sym next) ∙ l.invariant.1)
    (ap (λ (z : List Detail). l.faults ++ received_faults (details_received s z)) (sym next) ∙ l.invariant.2)
