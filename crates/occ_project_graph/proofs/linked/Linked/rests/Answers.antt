use Rattle.std.proofs.Common.{◌≡◌, ◌∙◌, List, [], ap, get_or, ℕ}
use Rattle.occ_project_graph.specs.Graph.{Graph, rests}
use Rattle.occ_project_graph.specs.inside.Linking.{rests_kept}
use Rattle.occ_project_graph.specs.inside.Numbering.{indexed, row_by}
use Rattle.occ_project_graph.proofs.Added.{rests_there}
use Rattle.occ_project_graph.proofs.Numbered.{row_is}
use Rattle.occ_project_graph.proofs.linked.Linked.rests.Goals as goal

pub returns : goal.returns
returns c =
    let row : c.rests_of-rests.result.now ≡ row_by c.self.inside.numbers.items (rests_kept c.self.inside.edges.items c.self.inside.rests) c.args.node =
    c.rests_of-rests.ensures
    ∙ ap (λ (ns : List ℕ). row_by ns (rests_kept c.as_slice-2.result.now c.self.inside.rests) c.args.node) c.as_slice.ensures.value
    ∙ ap (λ (g : Graph). row_by c.self.inside.numbers.items (rests_kept g c.self.inside.rests) c.args.node) c.as_slice-2.ensures.value in
    c.of.ensures
    ∙ ap (λ (is : List ℕ). indexed is c.rests_of-rests.result.now) c.as_slice-3.ensures.value
    ∙ ap (indexed c.self.inside.indices.items) row
    ∙ row_is c.self.inside.numbers.items c.self.inside.indices.items (rests_kept c.self.inside.edges.items c.self.inside.rests) c.args.node
    ∙ ap (λ (g : Graph). get_or g c.args.node []) c.self.invariant.rests_are ∙ rests_there _ c.args.node ∙ ap (λ (g : Graph). rests g c.args.node) c.self.view_is
