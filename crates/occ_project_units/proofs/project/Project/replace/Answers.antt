use Rattle.std.proofs.Common.{◌≡◌, List, Some, ap, subst, sym, ◌∙◌, arith}
use Rattle.occ_project.specs.declared.reads.Read.{Read}
use Rattle.occ_project.specs.Reads.{index}
use Rattle.occ_project_units.specs.Project.{IsProject, put}
use Rattle.occ_project_units.proofs.Finding.{index_within}
use Rattle.occ_project_units.proofs.Putting.{put_at, put_rises}
use Rattle.occ_project_units.proofs.project.Project.replace.Goals as goal

pub index_mut-requires : goal.index_mut-requires
index_mut-requires c =
    let files = c.self.inside.files.items in
    let found : index c.args.file.name files ≡ Some c.args.index = ap (index c.args.file.name) c.self.view_is ∙ c.requires in
    omega (arith, index_within c.args.file.name files c.args.index found, c.self.inside.files.ok)

pub invariant_of-self : goal.invariant_of-self
invariant_of-self c =
    let files = c.self.inside.files.items in
    let found : index c.args.file.name files ≡ Some c.args.index = ap (index c.args.file.name) c.self.view_is ∙ c.requires in
    subst IsProject (sym (put_at files c.args.file c.args.index c.self.invariant found)) (put_rises files c.args.file c.self.invariant)

pub returns : goal.returns
returns c =
    let files = c.self.inside.files.items in
    let found : index c.args.file.name files ≡ Some c.args.index = ap (index c.args.file.name) c.self.view_is ∙ c.requires in
    put_at files c.args.file c.args.index c.self.invariant found ∙ ap (λ (fs : List Read). put fs c.args.file) c.self.view_is
