use Rattle.std.proofs.Common.{◌≡◌, ◌∙◌, ◌<◌, List, [], ap, get_or, length, subst, sym, ℕ}
use Rattle.occ_project_graph.specs.Graph.{Graph, is_among, rests}
use Rattle.occ_project_graph.specs.inside.Linking.{rests_kept}
use Rattle.occ_project_graph.specs.inside.Numbering.{indexed, row_by}
use Rattle.occ_project_graph.proofs.Added.{rests_there}
use Rattle.occ_project_graph.proofs.Numbered.{row_few, row_is}
use Rattle.occ_project_graph.proofs.linked.Linked.rests_on.Goals as goal

pub has_node-requires-clause-within : goal.has_node-requires-clause-within
has_node-requires-clause-within c = λ n h.
    let row : c.rests_of-rests.result.now ≡ row_by c.self.inside.numbers.items (rests_kept c.self.inside.edges.items c.self.inside.rests) c.args.from =
    c.rests_of-rests.ensures
    ∙ ap (λ (ns : List ℕ). row_by ns (rests_kept c.as_slice-2.result.now c.self.inside.rests) c.args.from) c.as_slice.ensures.value
    ∙ ap (λ (g : Graph). row_by c.self.inside.numbers.items (rests_kept g c.self.inside.rests) c.args.from) c.as_slice-2.ensures.value in
    subst (λ (ns : List ℕ). n < length ns) (sym c.as_slice-3.ensures.value)
    (row_few c.self.inside.numbers.items (rests_kept c.self.inside.edges.items c.self.inside.rests) (length c.self.inside.numbers.items) c.args.from c.self.invariant.rests_over n (ap (λ (ns : List ℕ). is_among ns n) (sym row) ∙ h))

pub returns : goal.returns
returns c =
    let row : c.rests_of-rests.result.now ≡ row_by c.self.inside.numbers.items (rests_kept c.self.inside.edges.items c.self.inside.rests) c.args.from =
    c.rests_of-rests.ensures
    ∙ ap (λ (ns : List ℕ). row_by ns (rests_kept c.as_slice-2.result.now c.self.inside.rests) c.args.from) c.as_slice.ensures.value
    ∙ ap (λ (g : Graph). row_by c.self.inside.numbers.items (rests_kept g c.self.inside.rests) c.args.from) c.as_slice-2.ensures.value in
    c.has_node.ensures
    ∙ ap (λ (is : List ℕ). is_among (indexed is c.rests_of-rests.result.now) c.args.to) c.as_slice-4.ensures.value
    ∙ ap (λ (ns : List ℕ). is_among (indexed c.self.inside.indices.items ns) c.args.to) row
    ∙ ap (λ (ws : List ℕ). is_among ws c.args.to) (row_is c.self.inside.numbers.items c.self.inside.indices.items (rests_kept c.self.inside.edges.items c.self.inside.rests) c.args.from
    ∙ ap (λ (g : Graph). get_or g c.args.from []) c.self.invariant.rests_are ∙ rests_there _ c.args.from ∙ ap (λ (g : Graph). rests g c.args.from) c.self.view_is)
