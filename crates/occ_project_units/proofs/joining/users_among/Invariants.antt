use Rattle.std.proofs.Common.{map}
use Rattle.occ_project.specs.Entries.{is_among}
use Rattle.occ_project_units.proofs.Lacking.{IsMarking}
use Rattle.occ_project_units.proofs.joining.users_among.Given as goal

abbrev pub invariant-loop-index : goal.invariant-loop-index
invariant-loop-index l = IsMarking (map (λ facts. is_among facts.uses l.name) l.all) l.indices l.marks l.index-index
