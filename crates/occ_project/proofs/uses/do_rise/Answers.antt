use Rattle.std.proofs.Common.{arith}
use Rattle.occ_project.proofs.Rising.{rising_stay}
use Rattle.occ_project.proofs.uses.do_rise.Goals as goal

pub returns : goal.returns
returns c = λ h. let over = c.loop-i-test.false in rising_stay c.args.names.now (λ k lt. c.loop-i.invariant k (omega (arith, lt, over)))
