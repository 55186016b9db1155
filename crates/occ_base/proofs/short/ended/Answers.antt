use Rattle.std.proofs.Common.{arith}
use Rattle.occ_base.proofs.Numbers.{bytes_all}
use Rattle.occ_base.proofs.short.ended.Goals as goal

pub returns-clause-bytes : goal.returns-clause-bytes
returns-clause-bytes c = bytes_all c.args.digits.now (λ i. omega (arith, c.fits-digits i))
