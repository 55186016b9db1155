use Rattle.std.proofs.Common.{List, ap, ◌∙◌}
use Rattle.std.specs.List.{slice_get}
use Rattle.std.specs.Option.{option_and_then}
use Rattle.occ_project.specs.declared.reads.Read.{Read}
use Rattle.occ_project_units.proofs.Finding.{member_at}
use Rattle.occ_project_units.proofs.project.Project.file_near.Goals as goal

pub returns-in-Some : goal.returns-in-Some
returns-in-Some c =
    let files = c.args.self.now in
    c.at.ensures
    ∙ ap (λ (fs : List Read). slice_get fs c.in-Some.index) (c.as_slice.ensures.value ∙ c.self.view_is)
    ∙ ap (option_and_then (slice_get files)) c.in-Some.ensures
    ∙ member_at c.args.name files

pub returns-in-None : goal.returns-in-None
returns-in-None c =
    let files = c.args.self.now in
    ap (option_and_then (slice_get files)) c.in-None.ensures ∙ member_at c.args.name files
