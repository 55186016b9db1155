use Rattle.std.proofs.Common.{◌≡◌, ◌∙◌, ◌<◌, List, ap, length, subst, sym, ℕ}
use Rattle.occ_project_graph.specs.Graph.{Graph}
use Rattle.occ_project_graph.specs.Sources.{sources}
use Rattle.occ_project_graph.specs.inside.Numbering.{indexed, row_by}
use Rattle.occ_project_graph.proofs.Numbered.{by_long, row_is}
use Rattle.occ_project_graph.proofs.linked.Linked.sources.Goals as goal

pub returns : goal.returns
returns c =
    let row : c.row_of-sources.result.now ≡ row_by c.self.inside.numbers.items c.self.inside.sources.items c.args.node =
    c.row_of-sources.ensures
    ∙ ap (λ (ns : List ℕ). row_by ns c.as_slice-2.result.now c.args.node) c.as_slice.ensures.value
    ∙ ap (λ (g : Graph). row_by c.self.inside.numbers.items g c.args.node) c.as_slice-2.ensures.value in
    c.of.ensures
    ∙ ap (λ (is : List ℕ). indexed is c.row_of-sources.result.now) c.as_slice-3.ensures.value
    ∙ ap (indexed c.self.inside.indices.items) row
    ∙ row_is c.self.inside.numbers.items c.self.inside.indices.items c.self.inside.sources.items c.args.node
    ∙ c.self.invariant.turned_are c.args.node (subst (λ (n : ℕ). c.args.node < n) (by_long c.self.inside.numbers.items c.self.inside.indices.items c.self.inside.edges.items) (subst (λ (g : Graph). c.args.node < length g) (sym c.self.view_is) c.requires)) ∙ ap (λ (g : Graph). sources g c.args.node) c.self.view_is
