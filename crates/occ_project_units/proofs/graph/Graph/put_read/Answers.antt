use Rattle.std.proofs.Common.{List, ap, rules, subst, sym, ◌∙◌}
use Rattle.occ_project.specs.declared.reads.Read.{Read}
use Rattle.occ_project_units.proofs.Looking.{links_found, lookers_put_if}
use Rattle.occ_project_units.proofs.Sharing.{others_after, indices_after}
use Rattle.occ_project_units.proofs.graph.Graph.put_read.Goals as goal
use Rattle.occ_project_units.specs.Indices.{graph_of}
use Rattle.occ_project_units.specs.Project.{IsProject, put}
use Rattle.occ_project_units.specs.inside.Keeping.{AreLookersIf}

pub all_facts_after-requires-clause-others : goal.all_facts_after-requires-clause-others
all_facts_after-requires-clause-others c =
    others_after c.files.result.now c.in_ok-project.project c.set.new.self (record { name = c.args.name; revision = c.args.revision; source = c.args.source }) c.in_ok-set.ensures.ok
    (c.in_ok-project.ensures ∙ sym c.files.ensures.files)

pub links_after-requires-clause-indices : goal.links_after-requires-clause-indices
links_after-requires-clause-indices c =
    indices_after c.args.self.now c.in_ok-project.project c.set.new.self (record { name = c.args.name; revision = c.args.revision; source = c.args.source }) (subst IsProject c.self.view_is c.files.ensures.in_order) c.in_ok-set.ensures.ok
    (c.in_ok-project.ensures ∙ c.self.view_is)

pub lookers_after-requires-clause-links : goal.lookers_after-requires-clause-links
lookers_after-requires-clause-links c = links_found c.in_ok-found.found c.self.inside.links c.found_or.result.now (graph_of c.args.self.now) (graph_of c.set.new.self) c.found_or.ensures c.in_ok-found.ensures (c.self.invariant.links_are ∙ ap graph_of c.self.view_is)

pub invariant_of-self : goal.invariant_of-self
invariant_of-self c =
    let file : Read = record { name = c.args.name; revision = c.args.revision; source = c.args.source } in
    record {
      facts_are = search rules;
      links_are = search rules;
      readers_are = tt;
      lookers_are = lookers_put_if c.args.self.now c.set.new.self file c.take.result c.lookers_after.result
          (c.in_ok-set.ensures.ok ∙ ap (λ (fs : List Read). put fs file) (c.in_ok-project.ensures ∙ c.self.view_is))
          (subst (λ (fs : List Read). AreLookersIf fs c.take.result) c.self.view_is (subst (AreLookersIf c.self.inside.project) (sym c.take.ensures.value) c.self.invariant.lookers_are)) c.lookers_after.ensures;
    }

pub invariant_of-self-2 : goal.invariant_of-self-2
invariant_of-self-2 c =
    let file : Read = record { name = c.args.name; revision = c.args.revision; source = c.args.source } in
    record {
      facts_are = search rules;
      links_are = search rules;
      readers_are = tt;
      lookers_are = lookers_put_if c.args.self.now c.set.new.self file c.take.result c.lookers_after.result
          (c.in_ok-set.ensures.ok ∙ ap (λ (fs : List Read). put fs file) (c.in_ok-project.ensures ∙ c.self.view_is))
          (subst (λ (fs : List Read). AreLookersIf fs c.take.result) c.self.view_is (subst (AreLookersIf c.self.inside.project) (sym c.take.ensures.value) c.self.invariant.lookers_are)) c.lookers_after.ensures;
    }
