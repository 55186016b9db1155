use Rattle.std.proofs.Common.{◌≡◌, refl, length, Some, slice_get}
use Rattle.std.proofs.lemmas.Option.{slice_get_read}
use Rattle.occ_usage_conflicts.proofs.Accumulation.{reported_more}
use Rattle.occ_usage_conflicts.proofs.reporting.report.Goals as goal

pub loop-root-preserved : goal.loop-root-preserved
loop-root-preserved c =
    let at : slice_get c.args.table.now c.loop-root.root ≡ Some c.index-table-root.result
    = slice_get_read c.args.table.now (length c.args.table.now) c.loop-root.root c.index-table-root.result refl c.loop-root-test.true c.index-table-root.is in
    reported_more c.args.line.now c.args.env.now c.args.table.now c.loop-root.root c.index-table-root.result c.args.faults.now c.loop-root.faults c.root_faults.new.faults at
    c.loop-root.invariant c.in_ok-root_faults.ensures
