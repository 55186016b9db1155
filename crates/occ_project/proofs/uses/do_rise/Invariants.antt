use Rattle.std.proofs.Common.{◌≡◌, ◌<◌, ℕ, suc, [], get_or}
use Rattle.std.specs.declared.cmp.Ordering.TheVariants.{Less}
use Rattle.occ_project.specs.Reads.{name_cmp}
use Rattle.occ_project.proofs.uses.do_rise.Given as goal

abbrev pub invariant-loop-i : goal.invariant-loop-i
invariant-loop-i l = (k : ℕ) → suc k < l.i → name_cmp (get_or l.names k []) (get_or l.names (suc k) []) ≡ Less
