use Rattle.std.proofs.Common.{◌≡◌, drop, length}
use Rattle.occ_usage_conflicts.proofs.Parting.{IsPart}
use Rattle.occ_usage_conflicts.proofs.accumulate.parted_root_uses.Given as goal

abbrev pub invariant-loop-size : goal.invariant-loop-size
invariant-loop-size l = (length l.roots.items ≡ l.count) × IsPart l.sizes l.uses (drop l.size-index l.sizes) l.rest l.roots.items
