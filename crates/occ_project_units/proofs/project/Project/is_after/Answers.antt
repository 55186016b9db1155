use Rattle.std.proofs.Common.{List, ap, subst, sym, ◌∙◌, ◌≡◌}
use Rattle.std.specs.List.{slice_get}
use Rattle.std.specs.declared.cmp.Ordering.TheVariants.{Greater}
use Rattle.occ_project.specs.Reads.{name_cmp}
use Rattle.occ_project.specs.declared.reads.Read.{Read}
use Rattle.occ_project_units.proofs.Finding.{all_greater, gt_is, none_greater}
use Rattle.occ_project_units.proofs.project.Project.is_after.Goals as goal
use Rattle.occ_project_units.specs.Project.{IsProject}

pub returns-in-Some : goal.returns-in-Some
returns-in-Some c = λ t k d le lt.
    let greater : name_cmp c.in-Some.file.now.name c.args.name ≡ Greater = ap (λ (f : Read). name_cmp f.name c.args.name) (sym c.get.ensures) ∙ sym c.cmp.ensures ∙ gt_is c.cmp.result (sym c.is_gt.ensures ∙ t) in
    all_greater c.args.name c.args.self.now c.args.index c.in-Some.file.now (subst IsProject c.self.view_is c.self.invariant)
    (c.in-Some.ensures ∙ ap (λ (fs : List Read). slice_get fs c.args.index) (c.as_slice.ensures.value ∙ c.self.view_is)) greater k d le lt

pub returns-in-None : goal.returns-in-None
returns-in-None c = λ t k d le lt.
    none_greater c.args.name c.args.self.now c.args.index (c.in-None.ensures ∙ ap (λ (fs : List Read). slice_get fs c.args.index) (c.as_slice.ensures.value ∙ c.self.view_is)) k d le lt
