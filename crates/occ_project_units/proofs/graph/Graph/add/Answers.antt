use Rattle.std.proofs.Common.{◌∙◌, ◌<◌, List, ap, arith, length, subst, sym}
use Rattle.std.specs.Prelude.{IfSome}
use Rattle.occ_project.specs.declared.reads.Read.{Read}
use Rattle.occ_project_units.proofs.Added.{gap_long, lookers_then_if}
use Rattle.occ_project_units.proofs.graph.Graph.add.Goals as goal
use Rattle.occ_project_units.specs.Project.{IsProject, put}
use Rattle.occ_project_units.specs.inside.Keeping.{AreLookersIf, AreNotedWith}

pub invariant_of-self-2 : goal.invariant_of-self-2
invariant_of-self-2 c =
    let file : Read = record { name = c.args.name; revision = c.args.revision; source = c.args.source } in
    let later = c.in_ok-add_file.ensures.project ∙ ap (λ (fs : List Read). put fs file) c.self.view_is in
    record {
      facts_are = c.in_ok-add_file.ensures.facts;
      links_are = c.in_ok-add_file.ensures.links;
      readers_are = tt;
      lookers_are = subst (λ (fs : List Read). AreLookersIf fs c.lookers_with.result) (sym later)
          (lookers_then_if c.args.self.now file c.args.at c.requires.gap c.requires.unread (subst IsProject c.self.view_is c.files-files.ensures.in_order) c.take.result c.lookers_with.result
          (subst (λ (fs : List Read). AreLookersIf fs c.take.result) c.self.view_is (subst (AreLookersIf c.self.inside.project) (sym c.take.ensures.value) c.self.invariant.lookers_are))
          (subst (λ (fs : List Read). IfSome c.lookers_with.result (λ next. AreNotedWith fs c.args.at c.take.result next)) later c.lookers_with.ensures));
    }

pub lookers_with-requires-clause-within : goal.lookers_with-requires-clause-within
lookers_with-requires-clause-within c =
    let file : Read = record { name = c.args.name; revision = c.args.revision; source = c.args.source } in
    let long = gap_long c.args.self.now file c.args.at c.requires.gap in
    let within = c.requires.gap.within in
    subst (λ (fs : List Read). c.args.at < length fs) (sym (c.in_ok-add_file.ensures.project ∙ ap (λ (fs : List Read). put fs file) c.self.view_is)) (omega (arith, long, within))
