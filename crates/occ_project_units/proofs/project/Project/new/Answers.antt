use Rattle.std.proofs.Common.{subst, sym}
use Rattle.occ_project_units.specs.Project.{IsProject}
use Rattle.occ_project_units.proofs.Finding.{no_files}
use Rattle.occ_project_units.proofs.project.Project.new.Goals as goal

pub invariant_of-result : goal.invariant_of-result
invariant_of-result c = subst IsProject (sym c.new.ensures.items) no_files
