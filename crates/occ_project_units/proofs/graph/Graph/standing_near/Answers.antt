use Rattle.std.proofs.Common.{ap, sym, ◌∙◌}
use Rattle.occ_project.specs.Reads.{index}
use Rattle.occ_project_units.proofs.Kept.{absent_standing}
use Rattle.occ_project_units.proofs.graph.Graph.standing_near.Goals as goal

pub returns-in_default : goal.returns-in_default
returns-in_default c = absent_standing c.args.self.now c.args.unit c.args.used (sym (c.in_default.ensures ∙ ap (index c.args.used) c.self.view_is))
