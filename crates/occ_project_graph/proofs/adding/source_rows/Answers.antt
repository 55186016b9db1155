use Rattle.std.proofs.Common.{rules, ◌≡◌, List, get_or, subst, sym, take, ℕ, ◌+◌, ◌++◌, ◌∷◌, []}
use Rattle.std.proofs.lemmas.List.{take_more}
use Rattle.occ_project_graph.specs.inside.Numbering.{AreSourceRows, IsSourceRow}
use Rattle.occ_project_graph.proofs.Numbered.{rows_push}
use Rattle.occ_project_graph.proofs.adding.source_rows.Goals as goal

pub loop-node-preserved : goal.loop-node-preserved
loop-node-preserved c =
    let i : ℕ = c.loop-node.node-index in
    let nodes : List ℕ = c.args.nodes.now in
    let w : ℕ = get_or nodes i 0 in
    let pushed : c.push.new.self.items ≡ c.loop-node.rows.items ++ c.in_ok-source_row.field-0 ∷ [] = search rules in
    let row = subst (λ (n : ℕ). IsSourceRow c.args.indices.now c.args.at c.args.number n (get_or c.args.sources.now w []) c.in_ok-source_row.field-0) c.count_of-times.ensures
    (subst (λ (before : List ℕ). IsSourceRow c.args.indices.now c.args.at c.args.number c.count_of-times.result before c.in_ok-source_row.field-0) c.targets-before.ensures c.in_ok-source_row.ensures) in
    subst (AreSourceRows c.args.indices.now c.args.sources.now c.args.at c.args.number nodes (take (i + 1) nodes)) (sym pushed)
    (subst (λ (ws : List ℕ). AreSourceRows c.args.indices.now c.args.sources.now c.args.at c.args.number nodes ws (c.loop-node.rows.items ++ c.in_ok-source_row.field-0 ∷ [])) (sym (take_more nodes i 0 c.loop-node-test.true))
    (rows_push c.args.indices.now c.args.sources.now c.args.at c.args.number nodes (take i nodes) c.loop-node.rows.items w c.in_ok-source_row.field-0 c.loop-node.invariant row))
