use Rattle.std.proofs.Common.{List, ap, subst, sym, ◌∙◌}
use Rattle.std.specs.List.{slice_get}
use Rattle.std.specs.Str.{bytes_eq}
use Rattle.occ_project.specs.declared.reads.Read.{Read}
use Rattle.occ_project_units.proofs.Near.{placed_at}
use Rattle.occ_project_units.proofs.project.Project.is_at.Goals as goal
use Rattle.occ_project_units.specs.Project.{IsProject}

pub returns-in-Some : goal.returns-in-Some
returns-in-Some c = λ h.
    placed_at c.args.self.now c.args.index c.in-Some.file.now c.args.name (subst IsProject c.self.view_is c.self.invariant)
    (c.in-Some.ensures ∙ ap (λ (fs : List Read). slice_get fs c.args.index) (c.as_slice.ensures.value ∙ c.self.view_is)) (sym h ∙ c.eq.ensures ∙ ap (λ (f : Read). bytes_eq f.name c.args.name) c.get.ensures)
