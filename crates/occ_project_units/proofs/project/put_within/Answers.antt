use Rattle.std.proofs.Common.{rules, ◌≡◌, ◌∙◌, ◌<◌, List, Some, ap, arith, length, set, subst, sym}
use Rattle.std.specs.List.{insert}
use Rattle.occ_project.specs.Reads.{index}
use Rattle.occ_project.specs.declared.reads.Read.{Read}
use Rattle.occ_project_units.specs.New.{IsGap}
use Rattle.occ_project_units.specs.Project.{IsProject, put}
use Rattle.occ_project_units.proofs.Finding.{index_within}
use Rattle.occ_project_units.proofs.Putting.{put_at, put_gap}
use Rattle.occ_project_units.proofs.project.put_within.Goals as goal

pub index_mut-requires : goal.index_mut-requires
index_mut-requires c =
    let files : List Read = c.args.files.now.items in
    let found : index c.args.file.name files ≡ Some c.in-Ok.at =
    ap (λ (f : Read). index f.name files) (sym c.get.ensures) ∙ ap (index c.get.result.now.name) (sym c.as_slice.ensures.value) ∙ c.in-Ok.ensures in
    let within = index_within c.args.file.name files c.in-Ok.at found in
    omega (arith, within, c.args.files.now.ok)

pub returns-in-Ok-clause-files : goal.returns-in-Ok-clause-files
returns-in-Ok-clause-files c =
    let files : List Read = c.args.files.now.items in
    let found : index c.args.file.name files ≡ Some c.in-Ok.at =
    ap (λ (f : Read). index f.name files) (sym c.get.ensures) ∙ ap (index c.get.result.now.name) (sym c.as_slice.ensures.value) ∙ c.in-Ok.ensures in
    put_at files c.args.file c.in-Ok.at c.requires.project found

pub returns-in-Err-clause-files : goal.returns-in-Err-clause-files
returns-in-Err-clause-files c =
    let files : List Read = c.args.files.now.items in
    let gap : IsGap c.args.file.name files c.in-Err.at =
    subst (λ (f : Read). IsGap f.name files c.in-Err.at) c.get.ensures
    (subst (λ (fs : List Read). IsGap c.get.result.now.name fs c.in-Err.at) c.as_slice.ensures.value c.in-Err.ensures) in
    let there : c.insert.new.self.items ≡ insert files c.in-Err.at c.args.file = search rules in
    there ∙ put_gap files c.args.file c.in-Err.at gap
