use Rattle.std.proofs.Common.{sym, ◌∙◌}
use Rattle.occ_base.proofs.Order.{longer}
use Rattle.occ_base.proofs.file_name.order.Goals as goal

pub returns-in-empty : goal.returns-in-empty
returns-in-empty c =
    sym (longer c.args.a.now c.loop-byte.rest.now c.loop-byte.byte-index c.loop-byte-test.true c.in-empty.len_below) ∙ c.loop-byte.invariant
