use Rattle.std.proofs.Common.{take}
use Rattle.occ_types.specs.Interface.{IsWithin}
use Rattle.occ_types.proofs.comparison.are_among.Given as goal

abbrev pub invariant-loop-place : goal.invariant-loop-place
invariant-loop-place l = IsWithin (take l.place l.uses) l.others
