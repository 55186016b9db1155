use Rattle.std.proofs.Common.{◌≡◌, ◌∙◌, List, subst}
use Rattle.occ_project.specs.declared.reads.Read.{Read}
use Rattle.occ_project_units.proofs.Finding.{index_within}
use Rattle.occ_project_units.proofs.Renewed.{alike_after}
use Rattle.occ_project_units.proofs.graph.Graph.set.Goals as goal
use Rattle.occ_project_units.specs.Alike.{AreAlike}

pub readers-requires : goal.readers-requires
readers-requires c = index_within c.args.file.name c.args.self.now c.args.index c.requires

pub returns-clause-alike : goal.returns-clause-alike
returns-clause-alike c = λ h.
    let opened = c.is_open_as.ensures c.if-not-is_open_as.false in
    let same : c.set_leading.new.self ≡ c.args.self.now = c.in_ok-set_leading.ensures.other c.if-branch.false ∙ c.readers.ensures.same in
    subst (λ (fs : List Read). AreAlike fs c.put_read-2.new.self) same
    (alike_after c.set_leading.new.self c.put_read-2.new.self c.args.file c.in_ok-same.ensures.ok (c.in_ok-same.ensures.same h) opened.1 opened.0)
