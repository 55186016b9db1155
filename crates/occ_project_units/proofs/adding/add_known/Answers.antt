use Rattle.std.proofs.Common.{length}
use Rattle.occ_project_units.proofs.Added.{used_within}
use Rattle.occ_project_units.proofs.adding.add_known.Goals as goal

pub add-requires-clause-within : goal.add-requires-clause-within
add-requires-clause-within c = used_within c.args.project.now c.as_slice.result.now c.in_ok-targets.targets (length c.args.links.now) c.in_ok-targets.ensures c.requires.links
