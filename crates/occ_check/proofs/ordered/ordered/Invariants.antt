use Rattle.std.proofs.Common.{◌≡◌, map, take}
use Rattle.occ_check.specs.Ordered.{ordered}
use Rattle.occ_check.proofs.ordered.ordered.Given as goal

abbrev pub invariant-loop-one : goal.invariant-loop-one
invariant-loop-one l = (l.all ≡ map ordered (take l.one-index l.used)) × (map (λ one. one.unit) l.all ≡ map (λ one. one.unit) (take l.one-index l.used))
