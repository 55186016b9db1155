use Rattle.std.proofs.Common.{◌≡◌, Some, ap, sym, ◌∙◌}
use Rattle.occ_project.specs.Reads.{index}
use Rattle.occ_project_units.proofs.Kept.{edge_in_circle}
use Rattle.occ_project_units.proofs.graph.Graph.is_circular_to.Goals as goal

pub returns-in-Some : goal.returns-in-Some
returns-in-Some c =
    let files = c.args.self.now in
    let from : index c.args.unit files ≡ Some c.in-Some.from = sym (c.in-Some.ensures ∙ ap (index c.args.unit) c.self.view_is) in
    c.is_in_circle.ensures ∙ edge_in_circle files c.args.unit c.args.used c.in-Some.from c.args.to from c.requires
