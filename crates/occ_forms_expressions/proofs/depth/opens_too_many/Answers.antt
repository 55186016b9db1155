use Rattle.std.proofs.Common.{refl}
use Rattle.occ_forms_expressions.proofs.Openings.{too_many}
use Rattle.occ_forms_expressions.proofs.depth.opens_too_many.Goals as goal

pub returns-then-count-gt-MOST_OPEN : goal.returns-then-count-gt-MOST_OPEN
returns-then-count-gt-MOST_OPEN c = (λ h. too_many _ _ _ _ _ c.loop-token-test.true c.token-item.is c.loop-token.invariant.same c.open_after-count.ensures.value c.if-count-gt-MOST_OPEN.true, λ h. refl)
