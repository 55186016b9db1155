use Rattle.std.proofs.Common.{◌≡◌, ◌++◌, drop}
use Rattle.occ_typing_operands.specs.Operators.{all_faults, kinds as kinds_of}
use Rattle.occ_typing_statements.specs.StatementTrees.{target_trees as spec_target_trees, with_elements}
use Rattle.occ_typing_statements.specs.Targets.{targets as spec_targets}
use Rattle.occ_typing_statements.proofs.target.more_targets.Given as goal

abbrev pub invariant-loop-written : goal.invariant-loop-written
invariant-loop-written l =
    (l.targets.kinds ++ kinds_of (spec_targets l.scope (drop l.written-index l.elements)) ≡ l.initial.targets.kinds ++ kinds_of (spec_targets l.scope l.elements))
    × (with_elements l.targets.trees (spec_target_trees l.scope (drop l.written-index l.elements)) ≡ with_elements l.initial.targets.trees (spec_target_trees l.scope l.elements))
    × (l.faults ++ all_faults (spec_targets l.scope (drop l.written-index l.elements)) ≡ l.initial.faults ++ all_faults (spec_targets l.scope l.elements))
