use Rattle.std.proofs.Common.{List, ap, ◌∙◌}
use Rattle.std.specs.List.{slice_get}
use Rattle.std.specs.Option.{is_some}
use Rattle.occ_project.specs.declared.reads.Read.{Read}
use Rattle.occ_project_units.proofs.Kept.{closed_there, open_there}
use Rattle.occ_project_units.proofs.project.Project.is_open_at.Goals as goal

pub returns-in-Some : goal.returns-in-Some
returns-in-Some c name placed =
    c.is_some.ensures ∙ ap (λ (f : Read). is_some f.source) c.get.ensures ∙ open_there c.args.self.now name c.args.index c.in-Some.file.now placed (c.in-Some.ensures ∙ ap (λ (fs : List Read). slice_get fs c.args.index) (c.as_slice.ensures.value ∙ c.self.view_is))

pub returns-in-None : goal.returns-in-None
returns-in-None c name placed =
    closed_there c.args.self.now name c.args.index placed (c.in-None.ensures ∙ ap (λ (fs : List Read). slice_get fs c.args.index) (c.as_slice.ensures.value ∙ c.self.view_is))
