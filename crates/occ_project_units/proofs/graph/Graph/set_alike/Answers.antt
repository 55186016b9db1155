use Rattle.std.proofs.Common.{◌≡◌, ◌∙◌, List, ap, subst, true}
use Rattle.std.specs.Option.{is_some}
use Rattle.occ_project.specs.declared.reads.Read.{Read}
use Rattle.occ_project_units.proofs.Renewed.{alike_after}
use Rattle.occ_project_units.proofs.graph.Graph.set_alike.Goals as goal
use Rattle.occ_project_units.specs.Alike.{AreAlike}
use Rattle.occ_project_units.specs.Indices.{graph_of}
use Rattle.occ_project_units.specs.Project.{file_of, put}

pub returns-clause-alike : goal.returns-clause-alike
returns-clause-alike c = λ h.
    let files : List Read = c.self.inside.project in
    let done = c.in_ok-alike.ensures.done h in
    let opened = c.is_tried.ensures c.if-not-is_tried.false in
    let was : is_some (file_of files c.args.file.now.name).source ≡ true = ap (λ (fs : List Read). is_some (file_of fs c.args.file.now.name).source) c.self.view_is ∙ opened.1 in
    subst (λ (fs : List Read). AreAlike fs c.renew.new.project) c.self.view_is
    (alike_after files c.renew.new.project c.args.file.now (done.1.0 ∙ ap (put files) (c.in_ok-again.ensures ∙ c.in_ok-share.ensures)) (ap graph_of done.1.0 ∙ done.0.graph) was opened.0)
