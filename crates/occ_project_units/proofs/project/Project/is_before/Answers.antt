use Rattle.std.proofs.Common.{List, ap, ◌-◌, arith, subst, sym, ◌∙◌, ◌≡◌}
use Rattle.std.specs.List.{slice_get}
use Rattle.std.specs.declared.cmp.Ordering.TheVariants.{Less}
use Rattle.occ_project.specs.Reads.{name_cmp}
use Rattle.occ_project.specs.declared.reads.Read.{Read}
use Rattle.occ_project_units.proofs.Finding.{all_lesser, lt_is}
use Rattle.occ_project_units.proofs.project.Project.is_before.Goals as goal
use Rattle.occ_project_units.specs.Project.{IsProject}

pub returns-in-Some : goal.returns-in-Some
returns-in-Some c = λ t k d lt _.
    let less : name_cmp c.in-Some.file.now.name c.args.name ≡ Less = ap (λ (f : Read). name_cmp f.name c.args.name) (sym c.get.ensures) ∙ sym c.cmp.ensures ∙ lt_is c.cmp.result (sym c.is_lt.ensures ∙ t) in
    all_lesser c.args.name c.args.self.now (c.args.index - 1) c.in-Some.file.now (subst IsProject c.self.view_is c.self.invariant)
    (c.in-Some.ensures ∙ ap (λ (fs : List Read). slice_get fs (c.args.index - 1)) (c.as_slice.ensures.value ∙ c.self.view_is)) less k d (omega (arith, lt))
