use Rattle.std.proofs.Common.{sym, ◌∙◌, ap}
use Rattle.occ_base.specs.Order.{is_rising}
use Rattle.occ_check.proofs.Rising.{rising_in_order}
use Rattle.occ_check.proofs.order.in_order.Goals as goal

pub returns-then-is_rising : goal.returns-then-is_rising
returns-then-is_rising c = sym (rising_in_order c.args.found (ap is_rising (sym c.as_slice.ensures) ∙ sym c.if-is_rising.ensures))
