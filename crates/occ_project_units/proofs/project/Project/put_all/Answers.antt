use Rattle.std.proofs.Common.{◌∙◌, List, ap, subst, sym}
use Rattle.occ_project.specs.declared.reads.Read.{Read}
use Rattle.occ_project_units.specs.Project.{IsProject, put_back}
use Rattle.occ_project_units.proofs.Putting.{back_rises}
use Rattle.occ_project_units.proofs.project.Project.put_all.Goals as goal

pub invariant_of-self-2 : goal.invariant_of-self-2
invariant_of-self-2 c =
    subst IsProject (sym (c.put_all_within.ensures ∙ ap (λ (fs : List Read). put_back fs c.args.found) c.reserve.ensures.items)) (back_rises c.self.inside.files.items c.args.found c.self.invariant)
