use Rattle.std.proofs.Common.{List, ℕ, ap, ◌∙◌, sym, subst, ◌<◌, length}
use Rattle.std.specs.List.{slice_get}
use Rattle.occ_project.specs.Entries.{is_among}
use Rattle.occ_project.specs.declared.reads.Read.{Read}
use Rattle.occ_project_units.proofs.Reading.{none_at, read_at}
use Rattle.occ_project_units.proofs.graph.Graph.does_read.Goals as goal
use Rattle.occ_project_units.specs.Along.{name_at}
use Rattle.occ_project_units.specs.Units.{read_names}
use Rattle.occ_project_units.specs.declared.facts.Facts.{Facts}

pub returns-in-Some : goal.returns-in-Some
returns-in-Some c =
    c.does_read.ensures
    ∙ ap (λ (names : List (List ℕ)). is_among names c.args.name)
    (read_at c.self.inside.project c.self.inside.facts.items c.args.index c.in-Some.facts.now c.self.invariant.facts_are (c.in-Some.ensures ∙ ap (λ (fs : List Facts). slice_get fs c.args.index) c.as_slice.ensures.value)
    ∙ ap (λ (files : List Read). read_names files (name_at files c.args.index)) c.self.view_is)

pub returns-in-None : goal.returns-in-None
returns-in-None c =
    absurd (none_at c.self.inside.project c.self.inside.facts.items c.args.index c.self.invariant.facts_are (c.in-None.ensures ∙ ap (λ (fs : List Facts). slice_get fs c.args.index) c.as_slice.ensures.value) (subst (λ (files : List Read). c.args.index < length files) (sym c.self.view_is) c.requires))
