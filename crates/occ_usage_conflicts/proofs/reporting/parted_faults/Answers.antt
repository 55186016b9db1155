use Rattle.std.proofs.Common.{rules, arith, ◌≡◌, ◌∙◌, ◌<◌, ap, sym, length, List, [], ◌++◌}
use Rattle.std.proofs.lemmas.List.{append-nil}
use Rattle.occ_base.specs.declared.diag.Diag.{Diag}
use Rattle.occ_usage_conflicts.specs.Components.{joined, parted}
use Rattle.occ_usage_conflicts.specs.ParallelRule.{below, component_faults}
use Rattle.occ_usage_conflicts.specs.declared.accumulate.RootUses.{RootUses}
use Rattle.occ_usage_conflicts.specs.inside.Accumulating.{faults_in}
use Rattle.occ_usage_conflicts.proofs.Accumulation.{on_ok, table_faults}
use Rattle.occ_usage_conflicts.proofs.Parting.{parted_length}
use Rattle.occ_usage_conflicts.proofs.Reaching.{cut_faults, few_faults}
use Rattle.occ_usage_conflicts.proofs.reporting.parted_faults.Goals as goal

pub returns-then-sizes-lt2 : goal.returns-then-sizes-lt2
returns-then-sizes-lt2 c =
    let small : length c.args.sizes.now < 2 = search rules in
    let few : component_faults c.args.line.now c.args.env.now (parted c.args.sizes.now c.args.uses.now) ≡ [] = few_faults c.args.line.now c.args.env.now (parted c.args.sizes.now c.args.uses.now)
    (omega (arith, small, parted_length c.args.sizes.now c.args.uses.now)) in
    sym (ap (λ (ds : List Diag). c.args.faults.now ++ ds) few ∙ append-nil c.args.faults.now)

pub returns : goal.returns
returns c =
    let parts = parted c.args.sizes.now c.args.uses.now in on_ok c.report.result (λ e.
    e
    ∙ ap (λ (t : List RootUses). c.args.faults.now ++ below (length t) (faults_in c.args.line.now c.args.env.now t)) c.as_slice.ensures.value
    ∙ ap (λ (ds : List Diag). c.args.faults.now ++ ds)
    (table_faults c.args.line.now c.args.env.now parts (joined parts) c.in_ok-table.table.items c.in_ok-table.ensures.1 c.count_to-count.result c.in_ok-table.ensures.0
    ∙ cut_faults c.args.line.now c.args.env.now parts c.count_to-count.result c.count_to-count.ensures.within (λ r root from room. c.last_parted_root.ensures r root (c.count_to-count.ensures.following root from room))))
    c.report.ensures
