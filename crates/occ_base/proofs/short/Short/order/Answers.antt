use Rattle.std.proofs.Common.{◌∙◌, arith, sym}
use Rattle.occ_base.proofs.Zeros.{first_counts, long, order_filled, second_counts}
use Rattle.occ_base.proofs.short.Short.order.Goals as goal

pub returns-in-Equal : goal.returns-in-Equal
returns-in-Equal c =
    let a = c.self.invariant in
    let b = c.other.invariant in
    let m = long c.self.inside.len c.self.inside.bytes _ c.self.view_is (omega (arith, a.len, a.whole)) in
    let n = long c.other.inside.len c.other.inside.bytes _ c.other.view_is (omega (arith, b.len, b.whole)) in
    let p = order_filled _ _ _ _ _ _ c.filled.ensures.bytes c.filled-2.ensures.bytes m n a.len b.len in
    c.cmp.ensures ∙ second_counts _ _ _ (sym c.order.ensures ∙ c.in-Equal.is) p

pub returns-in_default : goal.returns-in_default
returns-in_default c =
    let a = c.self.invariant in
    let b = c.other.invariant in
    let m = long c.self.inside.len c.self.inside.bytes _ c.self.view_is (omega (arith, a.len, a.whole)) in
    let n = long c.other.inside.len c.other.inside.bytes _ c.other.view_is (omega (arith, b.len, b.whole)) in
    let p = order_filled _ _ _ _ _ _ c.filled.ensures.bytes c.filled-2.ensures.bytes m n a.len b.len in
    c.order.ensures ∙ first_counts _ _ _ (λ e. c.in_default.not-Equal (c.order.ensures ∙ e)) p
