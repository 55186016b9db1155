use Rattle.std.proofs.Common.{rules, ◌≡◌, ◌∙◌, ap, sym, length, List, [], ◌++◌}
use Rattle.std.proofs.lemmas.List.{append-nil}
use Rattle.occ_base.specs.declared.diag.Diag.{Diag}
use Rattle.occ_usage_conflicts.specs.Components.{joined}
use Rattle.occ_usage_conflicts.specs.ParallelRule.{below, component_faults}
use Rattle.occ_usage_conflicts.specs.declared.accumulate.RootUses.{RootUses}
use Rattle.occ_usage_conflicts.specs.inside.Accumulating.{faults_in}
use Rattle.occ_usage_conflicts.proofs.Accumulation.{on_ok, table_faults}
use Rattle.occ_usage_conflicts.proofs.Reaching.{cut_faults, few_faults}
use Rattle.occ_usage_conflicts.proofs.reporting.component_faults.Goals as goal

pub returns-then-components-lt2 : goal.returns-then-components-lt2
returns-then-components-lt2 c =
    let few : component_faults c.args.line.now c.args.env.now c.args.components.now ≡ [] = few_faults c.args.line.now c.args.env.now c.args.components.now (search rules) in
    sym (ap (λ (ds : List Diag). c.args.faults.now ++ ds) few ∙ append-nil c.args.faults.now)

pub returns : goal.returns
returns c = on_ok c.report.result (λ e.
    e
    ∙ ap (λ (t : List RootUses). c.args.faults.now ++ below (length t) (faults_in c.args.line.now c.args.env.now t)) c.as_slice.ensures.value
    ∙ ap (λ (ds : List Diag). c.args.faults.now ++ ds)
    (table_faults c.args.line.now c.args.env.now c.args.components.now (joined c.args.components.now) c.in_ok-table.table.items c.in_ok-table.ensures.1 c.count_to.result c.in_ok-table.ensures.0
    ∙ cut_faults c.args.line.now c.args.env.now c.args.components.now c.count_to.result c.count_to.ensures.within (λ r root from room. c.last_root.ensures r root (c.count_to.ensures.following root from room))))
    c.report.ensures
