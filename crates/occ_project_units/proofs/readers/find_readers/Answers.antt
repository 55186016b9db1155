use Rattle.std.proofs.Common.{Some, rules, subst, sym}
use Rattle.occ_project_graph.specs.Graph.{Graph}
use Rattle.occ_project_units.proofs.OtherReaders.{finding_more, finding_over}
use Rattle.occ_project_units.proofs.readers.find_readers.Goals as goal
use Rattle.occ_project_units.specs.inside.Keeping.{AreReaders}

pub loop-index-preserved : goal.loop-index-preserved
loop-index-preserved c =
    finding_more c.args.project.now c.args.facts.now c.requires c.files.ensures.in_order c.loop-index.rows.items c.add_sources.new.rows.items c.loop-index.index c.index-facts-index.result c.in_ok-nodes.nodes c.loop-index-test.true c.index-facts-index.is (search rules)
    c.loop-index.invariant (search rules) (search rules)

pub returns : goal.returns
returns c =
    subst (λ (rows : Graph). AreReaders c.args.project.now (Some rows)) (sym c.from_vec.ensures)
    (finding_over c.args.project.now c.args.facts.now c.requires c.files.ensures.in_order c.loop-index.rows.items c.loop-index.index c.loop-index-test.false c.loop-index.invariant)
