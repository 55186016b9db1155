use Rattle.std.proofs.Common.{rules, ◌≡◌, ◌∙◌, ◌<◌, ◌≤◌, List, ℕ, ap, arith, inl, inr, length, sym, true}
use Rattle.occ_project_graph.specs.Graph.{is_among}
use Rattle.occ_project_units.proofs.Edges.{named_index}
use Rattle.occ_project_units.proofs.Finding.{index_within}
use Rattle.occ_project_units.proofs.Renewed.{among_there}
use Rattle.occ_project_units.proofs.renewing.lead_other.Goals as goal

pub lead_to-requires-clause-node : goal.lead_to-requires-clause-node
lead_to-requires-clause-node c =
    let fits : c.first_other-place.result < length c.args.indices.now = omega arith in
    let lt = c.requires.within _ (among_there c.args.indices.now c.first_other-place.result fits) in
    omega (arith, lt, c.requires.len)

pub lead_to-requires-clause-within : goal.lead_to-requires-clause-within
lead_to-requires-clause-within c = λ v h.
    let found = named_index c.args.project.now c.as_slice-names.result.now v (ap (λ (ws : List ℕ). is_among ws v) (sym (c.as_slice.ensures ∙ c.in_ok-targets.ensures)) ∙ h) in
    let lt = index_within found.0 c.args.project.now v found.2 in
    omega (arith, lt, c.requires.len)

pub lead_anew-requires-clause-node : goal.lead_anew-requires-clause-node
lead_anew-requires-clause-node c =
    let fits : c.first_other-place.result < length c.args.indices.now = omega arith in
    let lt = c.requires.within _ (among_there c.args.indices.now c.first_other-place.result fits) in
    let same : length c.lead_to.new.self ≡ length c.args.links.now = search rules in
    omega (arith, lt, same, c.requires.len)

pub lead_anew-requires-clause-within : goal.lead_anew-requires-clause-within
lead_anew-requires-clause-within c = λ v h.
    let found = named_index c.args.project.now c.as_slice-names.result.now v (ap (λ (ws : List ℕ). is_among ws v) (sym (c.as_slice-then-not-branch.ensures ∙ c.in_ok-targets.ensures)) ∙ h) in
    let lt = index_within found.0 c.args.project.now v found.2 in
    let same : length c.lead_to.new.self ≡ length c.args.links.now = search rules in
    omega (arith, lt, same, c.requires.len)
