use Rattle.std.proofs.Common.{◌≡◌, ◌++◌, [], drop}
use Rattle.occ_typing_specifications.specs.Groups.{groups, values}
use Rattle.occ_typing_specifications.proofs.group.value_groups.Given as goal

abbrev pub invariant-loop-one : goal.invariant-loop-one
invariant-loop-one l =
    (l.formals ++ (groups l.scope l.before (values (drop l.one-index l.groups))).formals ≡ (groups l.scope [] (values l.groups)).formals)
    × (l.faults ++ (groups l.scope l.before (values (drop l.one-index l.groups))).faults ≡ l.initial.faults ++ (groups l.scope [] (values l.groups)).faults)
