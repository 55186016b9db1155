use Rattle.std.proofs.Common.{rules, ◌+◌, List, subst, sym}
use Rattle.std.specs.Prelude.{ℕ}
use Rattle.occ_project_graph.specs.inside.Components.{AreComponents}
use Rattle.occ_project_graph.specs.inside.Searching.{IsFound}
use Rattle.occ_project_graph.proofs.Circled.{AtNode, one_more}
use Rattle.occ_project_graph.proofs.circles.add_component.Goals as goal

pub returns-clause-components : goal.returns-clause-components
returns-clause-components c =
    let g = c.args.graph.now in
    let rows = c.args.sources.now in
    let r = c.args.node in
    let ns = c.args.components.now.found.marks in
    let bs = c.args.components.now.back.marks in
    let back = c.search.new.seen.marks in
    let numbers = c.search-2.new.seen.marks in
    let back_found : IsFound rows ns 0 r bs back = search rules in
    let found : IsFound g back (r + 1) r ns numbers = search rules in
    let at : AtNode g rows ns bs r back numbers = record { whole = c.requires.whole; turned = c.requires.turned; node = c.requires.node; opened = c.requires.open; is = c.requires.components; back_found = back_found; found = found } in
    subst (λ (xs : List ℕ). AreComponents g xs back) (sym c.set.ensures) (one_more g rows ns bs r back numbers at)
