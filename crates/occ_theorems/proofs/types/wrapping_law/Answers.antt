use Rattle.occ_theorems.proofs.Wraps.{wrapped_near, wrapped_in, one_in_range}
use Rattle.occ_theorems.proofs.types.wrapping_law.Goals as goal

pub returns-clause-congruent : goal.returns-clause-congruent
returns-clause-congruent c = wrapped_near

pub returns-clause-only : goal.returns-clause-only
returns-clause-only c t m n h near = one_in_range t m _ n h (wrapped_in t n) near (wrapped_near t n)
