use Rattle.std.proofs.Common.{◌≡◌, ◌∷◌, drop}
use Rattle.occ_base.specs.Order.{is_rising}
use Rattle.occ_check.proofs.order.is_rising.Given as goal

abbrev pub invariant-loop-next : goal.invariant-loop-next
invariant-loop-next l = is_rising (l.last ∷ drop l.next-index l.rest) ≡ is_rising l.diags
