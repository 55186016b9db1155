use Rattle.std.proofs.Common.{◌≡◌, ◌∙◌, ◌+◌, ◌∷◌, drop, ap, sym}
use Rattle.std.proofs.lemmas.List.{drop_more}
use Rattle.occ_scope.specs.Visible.{with_all}
use Rattle.occ_scope.proofs.Leaving.{one_more}
use Rattle.occ_scope.proofs.scope.Scope.enter_all.Goals as goal

pub loop-entry-preserved : goal.loop-entry-preserved
loop-entry-preserved c =
    let more = one_more _ _ _ _ c.entry-item.result c.loop-entry.invariant.0 c.loop-entry.invariant.1 c.in_default.ensures.ok in
    let split : drop c.loop-entry.entry-index c.args.entries.now ≡ c.entry-item.result ∷ drop (c.loop-entry.entry-index + 1) c.args.entries.now = drop_more _ _ c.entry-item.result c.loop-entry-test.true ∙ ap (λ z. z ∷ drop (c.loop-entry.entry-index + 1) c.args.entries.now) (sym c.entry-item.is) in
    (more.0, more.1, ap (λ z. with_all z (drop (c.loop-entry.entry-index + 1) c.args.entries.now)) c.in_default.ensures.ok ∙ ap (λ z. with_all c.loop-entry.self z) (sym split) ∙ c.loop-entry.invariant.2)
