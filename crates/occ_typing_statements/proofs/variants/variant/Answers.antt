use Rattle.std.proofs.Common.{◌++◌, ◌∙◌, List, ap}
use Rattle.occ_protocol.specs.declared.given.Given.{Given}
use Rattle.occ_typing_statements.specs.Receiving.{details_received, givens}
use Rattle.occ_typing_statements.proofs.Both.{variant_reported}
use Rattle.occ_typing_statements.proofs.variants.variant.Goals as goal

pub returns-clause-faults : goal.returns-clause-faults
returns-clause-faults c =
    let more = givens (details_received c.args.scope.now c.args.more.now) in
    let first = givens (details_received c.args.scope.now c.args.first.now) in
    variant_reported c.variant_at.result c.args.scope.now c.args.input.now c.args.tag.now c.args.first.now c.args.more.now _ _ _ _ _ _
    c.in_ok-all.ensures.faults
    c.in_ok-all-2.ensures.faults
    c.in_ok-place.ensures.faults
    c.in_ok-report_repeated.ensures.faults
    (c.as_slice.ensures ∙ c.in_ok-all-2.ensures.givens ∙ ap (λ (z : List Given). z ++ more) (c.in_ok-all.ensures.givens ∙ ap (λ (z : List Given). z ++ first) c.in_ok-none.ensures.givens))
