use Rattle.std.proofs.Common.{◌∙◌}
use Rattle.occ_project_units.proofs.Kept.{uses_found, uses_none}
use Rattle.occ_project_units.proofs.graph.Graph.uses_near.Goals as goal

pub returns-in-Some : goal.returns-in-Some
returns-in-Some c = c.as_slice.ensures ∙ c.get.ensures ∙ uses_found c.args.self.now c.args.unit c.in-Some.facts.now c.in-Some.ensures

pub returns-in-None : goal.returns-in-None
returns-in-None c = uses_none c.args.self.now c.args.unit c.in-None.ensures
