use Rattle.std.proofs.Common.{◌∙◌, ◌<◌, List, [], ap, get_or, inl, inr, length, subst, sym}
use Rattle.std.specs.List.{slice_get}
use Rattle.occ_project_graph.specs.Graph.{Graph}
use Rattle.occ_project.specs.declared.reads.Read.{Read}
use Rattle.occ_project_units.proofs.Added.{unread_there, unused_there, uses_at}
use Rattle.occ_project_units.proofs.Reading.{read_at}
use Rattle.occ_project_units.proofs.graph.Graph.may_look_for.Goals as goal
use Rattle.occ_project_units.specs.Along.{name_at}
use Rattle.occ_project_units.specs.Indices.{graph_of}
use Rattle.occ_project_units.specs.Project.{IsProject}
use Rattle.occ_project_units.specs.Units.{read_names, used_units}
use Rattle.occ_project_units.specs.declared.facts.Facts.{Facts}

pub returns-clause-unread : goal.returns-clause-unread
returns-clause-unread c = λ _.
    unread_there c.args.self.now (subst IsProject c.self.view_is c.files-files.ensures.in_order) c.args.name c.requires.absent c.args.index c.requires.within c.in-Some.facts.now.reads
    (read_at c.self.inside.project c.self.inside.facts.items c.args.index c.in-Some.facts.now c.self.invariant.facts_are (c.in-Some.ensures ∙ ap (λ (fs : List Facts). slice_get fs c.args.index) c.as_slice.ensures.value)
    ∙ ap (λ (files : List Read). read_names files (name_at files c.args.index)) c.self.view_is)
    (c.may_read.ensures c.if-may_read.false)

pub returns-clause-unused : goal.returns-clause-unused
returns-clause-unused c = λ none.
    unused_there c.args.self.now (subst IsProject c.self.view_is c.files-files.ensures.in_order) c.args.name c.requires.absent c.args.index c.requires.within c.in-Some.facts.now.uses c.targets.result
    (uses_at c.self.inside.project c.self.inside.facts.items c.args.index c.in-Some.facts.now c.self.invariant.facts_are (c.in-Some.ensures ∙ ap (λ (fs : List Facts). slice_get fs c.args.index) c.as_slice.ensures.value) (subst (λ (files : List Read). c.args.index < length files) (sym c.self.view_is) c.requires.within)
    ∙ ap (λ (files : List Read). used_units files (name_at files c.args.index)) c.self.view_is)
    (c.targets.ensures ∙ ap (λ (rows : Graph). get_or rows c.args.index []) (c.self.invariant.links_are ∙ ap graph_of c.self.view_is))
    (elim (c.may_use.ensures none) [
      | inl e ↦ inl (sym c.count.ensures ∙ e)
      | inr k ↦ inr k
    ])
