use Rattle.std.proofs.Common.{◌≡◌, ◌∙◌, ◌<◌, ℕ, List, [], ap, get_or, length, subst}
use Rattle.occ_project_graph.specs.Graph.{Graph, all_rests}
use Rattle.occ_project_graph.specs.Sources.{sources}
use Rattle.occ_project_graph.specs.inside.Linking.{rests_kept}
use Rattle.occ_project_graph.proofs.Renumbered.{of_linked, of_view}
use Rattle.occ_project_graph.proofs.linked.Linked.of.Goals as goal

pub invariant_of-result : goal.invariant_of-result
invariant_of-result c =
    let rests = subst (λ (g : Graph). rests_kept g c.in_ok-rests.rests ≡ all_rests g) c.as_slice-2.ensures.value c.in_ok-rests.ensures in
    let len = c.in_ok-sources.ensures.len ∙ ap (length {A = List ℕ}) c.as_slice.ensures.value in
    let rows = subst (λ (g : Graph). (v : ℕ) → v < length g → get_or c.in_ok-sources.sources.items v [] ≡ sources g v) c.as_slice.ensures.value c.in_ok-sources.ensures.rows in
    of_linked c.in_ok-numbers.numbers.items c.in_ok-indices.indices.items c.args.edges.items (rests_kept c.args.edges.items c.in_ok-rests.rests) c.in_ok-sources.sources.items c.len.result c.len-2.result c.in_ok-numbers.ensures c.in_ok-indices.ensures
    (c.len.ensures ∙ c.args.edges.ok.0) (c.len-2.ensures ∙ c.args.edges.ok.0) c.requires rests len rows

pub returns : goal.returns
returns c =
    of_view c.in_ok-numbers.numbers.items c.in_ok-indices.indices.items c.args.edges.items c.len.result c.len-2.result c.in_ok-numbers.ensures c.in_ok-indices.ensures (c.len.ensures ∙ c.args.edges.ok.0) (c.len-2.ensures ∙ c.args.edges.ok.0) c.requires
