use Rattle.std.proofs.Common.{Bool, List, [], OnOk, ap, arith, false, get_or, length, map, subst, sym, true, ℕ, ◌∙◌, ◌≡◌}
use Rattle.std.specs.Prelude.{slice_set}
use Rattle.occ_project_graph.specs.Adding.{with_used_node}
use Rattle.occ_project_graph.specs.Graph as graph
use Rattle.occ_project_graph.specs.Graph.{Graph}
use Rattle.occ_project.specs.Entries.{is_among}
use Rattle.occ_project.specs.declared.reads.Read.{Read}
use Rattle.occ_project_units.proofs.Edges.{named_index}
use Rattle.occ_project_units.proofs.Finding.{index_within}
use Rattle.occ_project_units.proofs.Joins.{none_set}
use Rattle.occ_project_units.proofs.joining.add_known.Goals as goal
use Rattle.occ_project_units.specs.Along.{name_at}
use Rattle.occ_project_units.specs.Indices.{indices_of}
use Rattle.occ_project_units.specs.Units.{used_units}
use Rattle.occ_project_units.specs.declared.facts.Facts.{Facts}

pub add_known_used-requires-clause-parted : goal.add_known_used-requires-clause-parted
add_known_used-requires-clause-parted c = λ u m. c.requires.joining.parted u (ap (λ (ms : List Bool). get_or ms u false) (sym c.requires.marks) ∙ m)

pub returns-then-is_empty-clause-links : goal.returns-then-is_empty-clause-links
returns-then-is_empty-clause-links c =
    let later : List Read = c.args.project.now in
    let links : Graph = c.args.links.now in
    let at : ℕ = c.args.at in
    let marks : List Bool = map (λ (f : Facts). is_among f.uses (name_at later at)) c.args.facts.now.items in
    let none : indices_of later (used_units later (name_at later at)) ≡ [] =
    ap (λ (n : List ℕ). indices_of later (used_units later n)) (sym c.name_at-name.ensures)
    ∙ ap (λ (f : Facts). indices_of later f.uses) (sym c.in_ok-known.ensures)
    ∙ ap (indices_of later) (sym c.get.ensures)
    ∙ ap (indices_of later) (sym c.as_slice.ensures)
    ∙ sym c.in_ok-targets.ensures
    ∙ c.is_empty.ensures.0 c.if-is_empty.true in
    subst (λ (g : Graph). OnOk c.add_known_used.result (c.add_known_used.new.links ≡ g))
    (ap (with_used_node links at) c.requires.marks
    ∙ sym (none_set links at marks c.requires.joining.links_fit)
    ∙ ap (slice_set (with_used_node links at marks) at) (sym none)
    ∙ c.requires.joining.links_are) c.add_known_used.ensures.links

pub add_known_between-requires-clause-within : goal.add_known_between-requires-clause-within
add_known_between-requires-clause-within c = λ v h.
    let found = named_index c.args.project.now c.as_slice.result.now v (ap (λ (ws : List ℕ). graph.is_among ws v) (sym (c.as_slice-2.ensures ∙ c.in_ok-targets.ensures)) ∙ h) in
    let lt = index_within found.0 c.args.project.now v found.2 in
    let long = c.requires.joining.long in
    omega (arith, lt, long)
