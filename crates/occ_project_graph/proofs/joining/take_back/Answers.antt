use Rattle.std.proofs.Common.{◌≡◌, ◌∙◌, ◌+◌, ◌-◌, List, ap, arith, length, map, take}
use Rattle.std.specs.Prelude.{ℕ, vec_len}
use Rattle.occ_project_graph.specs.Graph.{Graph, targets}
use Rattle.occ_project_graph.specs.inside.Linking.{with_rows}
use Rattle.occ_project_graph.proofs.Between.{taken_back}
use Rattle.occ_project_graph.proofs.Replaced.{rows_long}
use Rattle.occ_project_graph.proofs.joining.take_back.Goals as goal

pub returns : goal.returns
returns c = λ all long before others.
    let rows : Graph = c.args.rows.now.items in
    let nodes : List ℕ = c.args.nodes.now in
    let put : c.put_rows.new.rows.items ≡ with_rows rows nodes (map (λ n. targets all n) nodes) = c.put_rows.ensures ∙ ap (with_rows rows nodes) before in
    let whole : length c.put_rows.new.rows.items ≡ length all + 1 = ap (length {A = List ℕ}) put ∙ rows_long rows nodes (map (λ n. targets all n) nodes) ∙ long in
    let len = c.put_rows.new.rows.ok.0 in
    let n : vec_len c.put_rows.new.rows - 1 ≡ length all = omega (arith, len, whole) in
    taken_back rows all c.pop-last.new.self.items nodes long others (c.pop-last.ensures.rest ∙ ap (λ (k : ℕ). take k c.put_rows.new.rows.items) n ∙ ap (take (length all)) put)
