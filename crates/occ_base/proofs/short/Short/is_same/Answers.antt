use Rattle.std.proofs.Common.{◌≡◌, ◌∙◌, arith, sym}
use Rattle.occ_base.proofs.Zeros.{long, same_filled}
use Rattle.occ_base.proofs.short.Short.is_same.Goals as goal

pub returns-then-self-other : goal.returns-then-self-other
returns-then-self-other c =
    let a = c.self.invariant in
    let b = c.other.invariant in
    let m = long c.self.inside.len c.self.inside.bytes _ c.self.view_is (omega (arith, a.len, a.whole)) in
    let n = long c.other.inside.len c.other.inside.bytes _ c.other.view_is (omega (arith, b.len, b.whole)) in
    let e : c.self.inside.len ≡ c.other.inside.len = omega (arith, c.if-self-other.true) in
    c.are_same.ensures ∙ same_filled _ _ _ _ c.filled.ensures.bytes c.filled-then-self-other.ensures.bytes (m ∙ e ∙ sym n)
