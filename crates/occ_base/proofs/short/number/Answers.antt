use Rattle.std.proofs.Common.{◌∙◌, ap, Some, ℕ, arith, refl}
use Rattle.occ_base.proofs.Numbers.{number_filled}
use Rattle.occ_base.proofs.Zeros.{spread}
use Rattle.occ_base.proofs.short.number.Goals as goal

pub returns : goal.returns
returns c = ap (λ (n : ℕ). Some n) c.ended.ensures.value ∙ number_filled _ _ _ (spread _ _ _ c.copy_from_slice.ensures.after c.split_at_mut-front.ensures.back) refl (omega (arith, c.if-bytes-gt15.false)) c.ended.ensures.bytes
