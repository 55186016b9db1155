use Rattle.std.proofs.Common.{arith}
use Rattle.occ_project_graph.proofs.Pushed.{popped_by, popped_past}
use Rattle.occ_project_graph.proofs.adding.pop_number.Goals as goal

pub returns-then-node-len : goal.returns-then-node-len
returns-then-node-len c = λ g number e.
    let long = c.args.rows.now.ok.0 in
    let len = c.len.ensures in
    let lt = c.if-node-len.true in
    popped_by g c.args.rows.now.items c.args.node number c.pop.result c.index_mut.result.now c.pop.new.self e (omega (arith, long, len, lt)) c.index_mut.ensures.value c.pop.ensures

pub returns-else-node-len : goal.returns-else-node-len
returns-else-node-len c = λ g number e.
    let long = c.args.rows.now.ok.0 in
    let len = c.len.ensures in
    let le = c.if-node-len.false in
    popped_past g c.args.rows.now.items c.args.node number e (omega (arith, long, len, le))
