use Rattle.std.proofs.Common.{◌∙◌, ap, length, List, [], ◌∷◌, ◌++◌}
use Rattle.occ_base.specs.declared.diag.Diag.{Diag}
use Rattle.occ_usage_conflicts.specs.Components.{joined}
use Rattle.occ_usage_conflicts.specs.ParallelRule.{below}
use Rattle.occ_usage_conflicts.specs.declared.accumulate.RootUses.{RootUses}
use Rattle.occ_usage_conflicts.specs.inside.Accumulating.{faults_in}
use Rattle.occ_usage_conflicts.proofs.Accumulation.{on_ok, table_faults}
use Rattle.occ_usage_conflicts.proofs.Reaching.{cut_faults}
use Rattle.occ_usage_conflicts.proofs.reporting.twice_faults.Goals as goal

pub returns : goal.returns
returns c =
    let both = c.args.uses.now ∷ c.args.uses.now ∷ [] in on_ok c.report.result (λ e.
    e
    ∙ ap (λ (t : List RootUses). c.args.faults.now ++ below (length t) (faults_in c.args.line.now c.args.env.now t)) c.as_slice.ensures.value
    ∙ ap (λ (ds : List Diag). c.args.faults.now ++ ds)
    (table_faults c.args.line.now c.args.env.now both (joined both) c.in_ok-table.table.items c.in_ok-table.ensures.1 c.count_to-count.result c.in_ok-table.ensures.0
    ∙ cut_faults c.args.line.now c.args.env.now both c.count_to-count.result c.count_to-count.ensures.within (λ r root from room. c.last_root_of.ensures r root (c.count_to-count.ensures.following root from room))))
    c.report.ensures
