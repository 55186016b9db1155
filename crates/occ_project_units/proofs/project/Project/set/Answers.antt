use Rattle.std.proofs.Common.{◌≡◌, List, Some, ap, set, subst, sym, ◌∙◌, arith}
use Rattle.std.specs.List.{insert}
use Rattle.occ_project.specs.declared.reads.Read.{Read}
use Rattle.occ_project.specs.Reads.{index}
use Rattle.occ_project_units.specs.Project.{IsProject, put}
use Rattle.occ_project_units.specs.New.{IsGap}
use Rattle.occ_project_units.proofs.Finding.{index_within}
use Rattle.occ_project_units.proofs.Putting.{put_at, put_gap, put_rises}
use Rattle.occ_project_units.proofs.project.Project.set.Goals as goal

pub index_mut-requires : goal.index_mut-requires
index_mut-requires c =
    let files = c.self.inside.files.items in
    let found : index c.args.name files ≡ Some c.in-Ok.at = ap (index c.args.name) c.self.view_is ∙ c.in-Ok.ensures in
    omega (arith, index_within c.args.name files c.in-Ok.at found, c.self.inside.files.ok)

pub invariant_of-self : goal.invariant_of-self
invariant_of-self c =
    let files = c.self.inside.files.items in
    let file : Read = record { name = c.args.name; revision = c.args.revision; source = c.args.source } in
    let found : index c.args.name files ≡ Some c.in-Ok.at = ap (index c.args.name) c.self.view_is ∙ c.in-Ok.ensures in
    subst IsProject (sym (ap (set files c.in-Ok.at) c.in_ok-file.ensures ∙ put_at files file c.in-Ok.at c.self.invariant found)) (put_rises files file c.self.invariant)

pub invariant_of-self-in-Err : goal.invariant_of-self-in-Err
invariant_of-self-in-Err c =
    let files = c.self.inside.files.items in
    let file : Read = record { name = c.args.name; revision = c.args.revision; source = c.args.source } in
    let gap : IsGap c.args.name files c.in-Err.at = subst (λ (fs : List Read). IsGap c.args.name fs c.in-Err.at) (sym c.self.view_is) c.in-Err.ensures in
    subst IsProject (sym (c.in_ok-insert_at-in-Err.ensures.ok ∙ ap (insert files c.in-Err.at) c.in_ok-file.ensures ∙ put_gap files file c.in-Err.at gap)) (put_rises files file c.self.invariant)

pub returns-in-Ok-clause-ok : goal.returns-in-Ok-clause-ok
returns-in-Ok-clause-ok c =
    let files = c.self.inside.files.items in
    let file : Read = record { name = c.args.name; revision = c.args.revision; source = c.args.source } in
    let found : index c.args.name files ≡ Some c.in-Ok.at = ap (index c.args.name) c.self.view_is ∙ c.in-Ok.ensures in
    ap (set files c.in-Ok.at) c.in_ok-file.ensures ∙ put_at files file c.in-Ok.at c.self.invariant found ∙ ap (λ (fs : List Read). put fs file) c.self.view_is

pub returns-in_ok-insert_at-in-Err-clause-ok : goal.returns-in_ok-insert_at-in-Err-clause-ok
returns-in_ok-insert_at-in-Err-clause-ok c =
    let files = c.self.inside.files.items in
    let file : Read = record { name = c.args.name; revision = c.args.revision; source = c.args.source } in
    let gap : IsGap c.args.name files c.in-Err.at = subst (λ (fs : List Read). IsGap c.args.name fs c.in-Err.at) (sym c.self.view_is) c.in-Err.ensures in
    c.in_ok-insert_at-in-Err.ensures.ok ∙ ap (insert files c.in-Err.at) c.in_ok-file.ensures ∙ put_gap files file c.in-Err.at gap ∙ ap (λ (fs : List Read). put fs file) c.self.view_is
