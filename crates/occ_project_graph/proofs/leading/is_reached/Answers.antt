use Rattle.std.proofs.Common.{rules, ◌≡◌, ◌∙◌, ap, length, subst, List}
use Rattle.std.specs.Prelude.{ℕ, [], nat_lt, replicate}
use Rattle.occ_project_graph.specs.inside.Searching.{IsFound, mark_at}
use Rattle.occ_project_graph.proofs.Circled.{back_to_itself}
use Rattle.occ_project_graph.proofs.leading.is_reached.Goals as goal

pub returns : goal.returns
returns c =
    let g = c.args.graph.now in
    let new = c.search.new.seen.marks in
    let none : c.in_ok-seen.seen.marks ≡ replicate (length g) 0 = search rules in
    let found : IsFound g [] 0 c.args.node (replicate (length g) 0) new = subst (λ (old : List ℕ). IsFound g [] 0 c.args.node old new) none c.in_ok-search.ensures in
    let at : c.number_at.result ≡ mark_at new c.args.node = search rules in
    ap (nat_lt 0) at ∙ back_to_itself g c.args.node new c.requires found
