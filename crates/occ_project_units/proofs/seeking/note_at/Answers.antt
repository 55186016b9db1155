use Rattle.std.proofs.Common.{◌∙◌, List, [], ap, get_or, ℕ, subst}
use Rattle.occ_project_graph.specs.Graph.{Graph}
use Rattle.occ_project_units.proofs.Looking.{known_there, noted_at}
use Rattle.occ_project_units.proofs.seeking.note_at.Goals as goal
use Rattle.occ_project_units.specs.inside.Keeping.{IsNotedBy}

pub returns-clause-noted : goal.returns-clause-noted
returns-clause-noted c = λ h.
    noted_at c.args.project.now c.files-files.ensures.in_order c.args.index c.requires.within c.get.result.now c.targets.result c.count-edges.result c.note.new.lookers
    (c.get.ensures ∙ known_there c.args.project.now c.args.facts.now c.args.index c.in-Some.known.now c.requires.facts c.requires.within c.in-Some.ensures)
    (c.targets.ensures ∙ ap (λ (rows : Graph). get_or rows c.args.index []) c.requires.links) c.count-edges.ensures
    (subst (λ (n : List ℕ). IsNotedBy c.get.result.now n c.count-edges.result c.note.new.lookers) c.name_at.ensures (c.note.ensures.noted h))
