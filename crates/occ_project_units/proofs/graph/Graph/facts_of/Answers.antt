use Rattle.std.proofs.Common.{List, ℕ, ap, sym, ◌∙◌}
use Rattle.std.specs.List.{slice_get}
use Rattle.std.specs.Option.{option_map}
use Rattle.occ_project.specs.declared.reads.Read.{Read}
use Rattle.occ_project.specs.Reads.{index}
use Rattle.occ_project_units.specs.declared.facts.Facts.{Facts}
use Rattle.occ_project_units.specs.inside.Keeping.{facts_of}
use Rattle.occ_project_units.proofs.Kept.{facts_there}
use Rattle.occ_project_units.proofs.graph.Graph.facts_of.Goals as goal

pub returns-in-Some : goal.returns-in-Some
returns-in-Some c =
    c.facts_at.ensures
    ∙ ap (λ (facts : List Facts). slice_get facts c.in-Some.index) c.as_slice.ensures.value
    ∙ facts_there c.self.inside.project c.self.inside.facts.items c.args.name c.in-Some.index c.self.invariant.facts_are (sym c.in-Some.ensures)
    ∙ ap (λ (files : List Read). option_map (λ (at : ℕ). facts_of files c.args.name) (index c.args.name files)) c.self.view_is

pub returns-in-None : goal.returns-in-None
returns-in-None c =
    ap (option_map (λ (at : ℕ). facts_of c.self.inside.project c.args.name)) c.in-None.ensures
    ∙ ap (λ (files : List Read). option_map (λ (at : ℕ). facts_of files c.args.name) (index c.args.name files)) c.self.view_is
