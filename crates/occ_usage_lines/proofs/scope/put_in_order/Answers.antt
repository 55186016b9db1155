use Rattle.occ_usage_lines.proofs.Choosing.{in_order_rises, same_in_order}
use Rattle.occ_usage_lines.proofs.scope.put_in_order.Goals as goal

pub returns-clause-same : goal.returns-clause-same
returns-clause-same c n =
    same_in_order c.args.numbers.now.items c.sort_unstable.new.self.items c.dedup.new.self.items n c.sort_unstable.ensures.permutation c.dedup.ensures.filtered

pub returns-clause-rising : goal.returns-clause-rising
returns-clause-rising c = in_order_rises c.sort_unstable.new.self.items c.dedup.new.self.items c.sort_unstable.ensures.sorted c.dedup.ensures.filtered
