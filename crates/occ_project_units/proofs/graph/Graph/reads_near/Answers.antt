use Rattle.std.proofs.Common.{◌∙◌}
use Rattle.occ_project_units.proofs.Kept.{reads_found, reads_none}
use Rattle.occ_project_units.proofs.graph.Graph.reads_near.Goals as goal

pub returns-in-Some : goal.returns-in-Some
returns-in-Some c = c.as_slice.ensures ∙ reads_found c.args.self.now c.args.unit.now c.in-Some.facts.now c.in-Some.ensures

pub returns-in-None : goal.returns-in-None
returns-in-None c = c.own_name.ensures ∙ reads_none c.args.self.now c.args.unit.now c.in-None.ensures
