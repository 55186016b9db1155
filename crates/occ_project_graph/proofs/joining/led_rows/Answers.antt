use Rattle.std.proofs.Common.{rules, ◌≡◌, List, subst, sym, take, ℕ, ◌+◌, ◌++◌, ◌∷◌, []}
use Rattle.occ_project_graph.specs.inside.Linking.{AreLed}
use Rattle.occ_project_graph.specs.inside.Numbering.{IsSourceRow}
use Rattle.occ_project_graph.proofs.Led.{led_more}
use Rattle.occ_project_graph.proofs.joining.led_rows.Goals as goal

pub loop-node-preserved : goal.loop-node-preserved
loop-node-preserved c =
    let i : ℕ = c.loop-node.node-index in
    let nodes : List ℕ = c.args.nodes.now in
    let pushed : c.push.new.self.items ≡ c.loop-node.rows.items ++ c.in_ok-source_row.field-0 ∷ [] = search rules in
    subst (AreLed c.args.indices.now c.args.at c.args.number c.args.before.now (take (i + 1) nodes)) (sym pushed)
    (led_more c.args.indices.now c.args.at c.args.number c.args.before.now nodes c.loop-node.rows.items i c.in_ok-source_row.field-0 c.loop-node.invariant c.loop-node-test.true
    (subst (λ (before : List ℕ). IsSourceRow c.args.indices.now c.args.at c.args.number 1 before c.in_ok-source_row.field-0) c.targets-before.ensures c.in_ok-source_row.ensures))
