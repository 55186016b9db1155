use Rattle.std.proofs.Common.{◌≡◌, ◌∙◌, ◌<◌, List, [], ap, get_or, length, subst, sym, ℕ}
use Rattle.occ_project_graph.specs.Graph.{Graph, is_among}
use Rattle.occ_project_graph.specs.inside.Numbering.{indexed, row_by}
use Rattle.occ_project_graph.proofs.Numbered.{row_few, row_is}
use Rattle.occ_project_graph.proofs.linked.Linked.has_edge.Goals as goal

pub has_node-requires-clause-within : goal.has_node-requires-clause-within
has_node-requires-clause-within c = λ n h.
    let row : c.row_of-targets.result.now ≡ row_by c.self.inside.numbers.items c.self.inside.edges.items c.args.from =
    c.row_of-targets.ensures
    ∙ ap (λ (ns : List ℕ). row_by ns c.as_slice-2.result.now c.args.from) c.as_slice.ensures.value
    ∙ ap (λ (g : Graph). row_by c.self.inside.numbers.items g c.args.from) c.as_slice-2.ensures.value in
    subst (λ (ns : List ℕ). n < length ns) (sym c.as_slice-3.ensures.value)
    (row_few c.self.inside.numbers.items c.self.inside.edges.items (length c.self.inside.numbers.items) c.args.from c.self.invariant.edges_over n (ap (λ (ns : List ℕ). is_among ns n) (sym row) ∙ h))

pub returns : goal.returns
returns c =
    let row : c.row_of-targets.result.now ≡ row_by c.self.inside.numbers.items c.self.inside.edges.items c.args.from =
    c.row_of-targets.ensures
    ∙ ap (λ (ns : List ℕ). row_by ns c.as_slice-2.result.now c.args.from) c.as_slice.ensures.value
    ∙ ap (λ (g : Graph). row_by c.self.inside.numbers.items g c.args.from) c.as_slice-2.ensures.value in
    c.has_node.ensures
    ∙ ap (λ (is : List ℕ). is_among (indexed is c.row_of-targets.result.now) c.args.to) c.as_slice-4.ensures.value
    ∙ ap (λ (ns : List ℕ). is_among (indexed c.self.inside.indices.items ns) c.args.to) row
    ∙ ap (λ (ws : List ℕ). is_among ws c.args.to) (row_is c.self.inside.numbers.items c.self.inside.indices.items c.self.inside.edges.items c.args.from
    ∙ ap (λ (g : Graph). get_or g c.args.from []) c.self.view_is)
