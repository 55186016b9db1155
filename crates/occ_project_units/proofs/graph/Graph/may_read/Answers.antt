use Rattle.std.proofs.Common.{◌∙◌, List, ap, subst}
use Rattle.std.specs.List.{slice_get}
use Rattle.occ_project.specs.declared.reads.Read.{Read}
use Rattle.occ_project_units.proofs.Added.{unread_there}
use Rattle.occ_project_units.proofs.Reading.{read_at}
use Rattle.occ_project_units.proofs.graph.Graph.may_read.Goals as goal
use Rattle.occ_project_units.specs.Along.{name_at}
use Rattle.occ_project_units.specs.Project.{IsProject}
use Rattle.occ_project_units.specs.Units.{read_names}
use Rattle.occ_project_units.specs.declared.facts.Facts.{Facts}

pub returns-in-Some : goal.returns-in-Some
returns-in-Some c = λ none.
    unread_there c.args.self.now (subst IsProject c.self.view_is c.files-files.ensures.in_order) c.args.name c.requires.absent c.args.index c.requires.within c.in-Some.facts.now.reads
    (read_at c.self.inside.project c.self.inside.facts.items c.args.index c.in-Some.facts.now c.self.invariant.facts_are (c.in-Some.ensures ∙ ap (λ (fs : List Facts). slice_get fs c.args.index) c.as_slice.ensures.value)
    ∙ ap (λ (files : List Read). read_names files (name_at files c.args.index)) c.self.view_is)
    (c.may_read.ensures none)
