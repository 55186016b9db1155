use Rattle.std.proofs.Common.{◌≡◌, ◌++◌, drop, map}
use Rattle.occ_typing_operands.specs.Operators.{all_faults, kinds}
use Rattle.occ_typing_operands.specs.Settling.{settled}
use Rattle.occ_typing_operands.proofs.operate.decided.Given as goal

abbrev pub invariant-loop-kind : goal.invariant-loop-kind
invariant-loop-kind l =
    (l.taken ++ kinds (map (settled l.of) (drop l.kind-index l.kinds)) ≡ kinds (map (settled l.of) l.kinds))
    × (l.faults ++ all_faults (map (settled l.of) (drop l.kind-index l.kinds)) ≡ l.initial.faults ++ all_faults (map (settled l.of) l.kinds))
