use Rattle.std.proofs.Common.{◌≡◌, ◌∙◌, List, ap, rules, subst, sym}
use Rattle.occ_project.specs.declared.reads.Read.{Read}
use Rattle.occ_project_units.proofs.Looking.{lookers_then_if}
use Rattle.occ_project_units.proofs.graph.Graph.set_leading.Goals as goal
use Rattle.occ_project_units.specs.Project.{put}
use Rattle.occ_project_units.specs.inside.Keeping.{AreLookersIf}

pub invariant_of-self-then-done-2 : goal.invariant_of-self-then-done-2
invariant_of-self-then-done-2 c =
    let files : List Read = c.self.inside.project in
    let done = c.in_ok-done.ensures.done c.if-done.true in
    let put_is : c.renew_leading.new.project ≡ put files c.args.file.now = done.0 ∙ ap (put files) (c.in_ok-again.ensures ∙ c.in_ok-share.ensures) in
    record {
      facts_are = done.1.0;
      links_are = done.1.1;
      readers_are = tt;
      lookers_are = lookers_then_if files c.renew_leading.new.project c.args.file.now c.take.result c.lookers_among.result put_is
          (subst (AreLookersIf files) (sym c.take.ensures.value) c.self.invariant.lookers_are) c.lookers_among.ensures;
    }
