use Rattle.std.proofs.Common.{◌≡◌, drop}
use Rattle.std.specs.Cmp.Lexicographic.{slice_cmp}
use Rattle.std.specs.Ordering.{nat_cmp}
use Rattle.occ_base.proofs.file_name.order.Given as goal

abbrev pub invariant-loop-byte : goal.invariant-loop-byte
invariant-loop-byte l = slice_cmp nat_cmp (drop l.byte-index l.a) l.rest ≡ slice_cmp nat_cmp l.a l.b
