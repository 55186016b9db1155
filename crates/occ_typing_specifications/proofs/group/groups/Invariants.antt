use Rattle.std.proofs.Common.{◌≡◌, ◌++◌, [], drop}
use Rattle.occ_typing_specifications.specs.Groups.{groups}
use Rattle.occ_typing_specifications.proofs.group.groups.Given as goal

abbrev pub invariant-loop-one : goal.invariant-loop-one
invariant-loop-one l =
    (l.formals ++ (groups l.scope l.before (drop l.one-index l.groups)).formals ≡ (groups l.scope [] l.groups).formals)
    × (l.faults ++ (groups l.scope l.before (drop l.one-index l.groups)).faults ≡ l.initial.faults ++ (groups l.scope [] l.groups).faults)
