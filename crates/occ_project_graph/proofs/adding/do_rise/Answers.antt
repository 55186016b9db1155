use Rattle.std.proofs.Common.{arith}
use Rattle.occ_project_graph.specs.inside.Numbering.{index_at}
use Rattle.occ_project_graph.proofs.Rising.{times_once}
use Rattle.occ_project_graph.proofs.adding.do_rise.Goals as goal

pub returns : goal.returns
returns c = λ true_is i lt.
    let all = c.loop-i-test.false in
    times_once (index_at c.args.indices.now) c.args.nodes.now (λ k below. c.loop-i.invariant k (omega (arith, below, all))) i lt
