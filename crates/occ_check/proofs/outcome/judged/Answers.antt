use Rattle.std.proofs.Common.{subst, sym}
use Rattle.std.specs.List.{flat_map}
use Rattle.occ_check.proofs.Sorted.{used_rise}
use Rattle.occ_check.specs.Input.{expansion_in}
use Rattle.occ_project.specs.Uses.{units_of}
use Rattle.occ_check.specs.inside.Sorted.{AreSorted}
use Rattle.occ_check.proofs.outcome.judged.Goals as goal

pub find_line_faults-requires : goal.find_line_faults-requires
find_line_faults-requires c = subst AreSorted (sym c.used.ensures) (used_rise c.args.job.now.used (flat_map units_of (expansion_in c.args.job.now).lines) c.unit.ensures.input.1)
