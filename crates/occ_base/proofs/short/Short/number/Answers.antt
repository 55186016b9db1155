use Rattle.std.proofs.Common.{◌∙◌, ap, Some, ℕ, arith}
use Rattle.occ_base.proofs.Numbers.{number_filled}
use Rattle.occ_base.proofs.Zeros.{long}
use Rattle.occ_base.proofs.short.Short.number.Goals as goal

pub returns : goal.returns
returns c =
    let a = c.self.invariant in
    let m = long c.self.inside.len c.self.inside.bytes _ c.self.view_is (omega (arith, a.len, a.whole)) in
    ap (λ (n : ℕ). Some n) c.ended.ensures.value ∙ number_filled _ _ _ c.filled.ensures.bytes m (omega (arith, a.len)) c.ended.ensures.bytes
