use Rattle.std.proofs.Common.{arith}
use Rattle.std.proofs.lemmas.Nat.{xor_lt}
use Rattle.occ_types.proofs.constant.bit_xor.Goals as goal

pub settle_pattern-requires : goal.settle_pattern-requires
settle_pattern-requires c = omega (arith, xor_lt 64 c.pattern.result c.pattern-2.result c.pattern.ensures.most c.pattern-2.ensures.most)
