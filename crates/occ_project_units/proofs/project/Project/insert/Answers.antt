use Rattle.std.proofs.Common.{◌∙◌, List, ap, subst, sym}
use Rattle.std.specs.List.{insert}
use Rattle.occ_project.specs.declared.reads.Read.{Read}
use Rattle.occ_project_units.specs.New.{IsGap}
use Rattle.occ_project_units.specs.Project.{IsProject, put}
use Rattle.occ_project_units.proofs.Putting.{put_gap, put_rises}
use Rattle.occ_project_units.proofs.project.Project.insert.Goals as goal

pub invariant_of-self-2 : goal.invariant_of-self-2
invariant_of-self-2 c =
    let files = c.self.inside.files.items in
    let gap : IsGap c.args.file.name files c.args.at = subst (λ (fs : List Read). IsGap c.args.file.name fs c.args.at) (sym c.self.view_is) c.requires in
    subst IsProject (sym (c.in_ok-insert_at.ensures.ok ∙ ap (insert files c.args.at) c.in_ok-file.ensures ∙ put_gap files c.args.file c.args.at gap)) (put_rises files c.args.file c.self.invariant)

pub returns-clause-ok : goal.returns-clause-ok
returns-clause-ok c =
    let files = c.self.inside.files.items in
    let gap : IsGap c.args.file.name files c.args.at = subst (λ (fs : List Read). IsGap c.args.file.name fs c.args.at) (sym c.self.view_is) c.requires in
    c.in_ok-insert_at.ensures.ok ∙ ap (insert files c.args.at) c.in_ok-file.ensures ∙ put_gap files c.args.file c.args.at gap ∙ ap (λ (fs : List Read). put fs c.args.file) c.self.view_is
