use Rattle.std.proofs.Common.{◌∙◌, ℕ, ap, get_or}
use Rattle.std.specs.Prelude.{slice_set}
use Rattle.occ_project_graph.proofs.Replaced.{putting_more}
use Rattle.occ_project_graph.proofs.adding.put_rows.Goals as goal
use Rattle.occ_project_graph.specs.inside.Linking.{with_rows}

pub loop-row-preserved : goal.loop-row-preserved
loop-row-preserved c =
    putting_more c.args.nodes.now (with_rows c.args.rows.now.items c.args.nodes.now c.args.found) c.loop-row.rows.items c.put_row.new.rows.items c.loop-row.found c.pop.new.self c.in-Some.row c.loop-row.invariant c.in-Some.ensures
    (c.put_row.ensures ∙ ap (λ (i : ℕ). slice_set c.loop-row.rows.items (get_or c.args.nodes.now i 0) c.in-Some.row) c.len.ensures)
