use Rattle.std.proofs.Common.{rules, [], refl}
use Rattle.occ_project_graph.proofs.Searches.{begun, on_ok}
use Rattle.occ_project_graph.proofs.search.search.Goals as goal

pub returns : goal.returns
returns c =
    let old = c.args.seen.now.marks in
    on_ok c.go_on.result (λ found.
    found c.args.from old refl (begun c.args.graph.now c.args.others.now c.args.other c.args.from old c.see_all.new.seen (record { marks = old; queue = [] }) c.requires.fresh (search rules) (search rules))) c.go_on.ensures
