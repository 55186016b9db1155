use Rattle.std.proofs.Common.{◌∙◌, List, ap, sym}
use Rattle.occ_base.specs.Order.{diag_order, placed}
use Rattle.occ_base.specs.declared.diag.Diag.{Diag}
use Rattle.occ_usage.proofs.Told.{placed_run}
use Rattle.occ_usage.proofs.finding.tell_runs.Goals as goal

pub loop-run-preserved : goal.loop-run-preserved
loop-run-preserved c =
    ap (placed diag_order c.pop.new.self) c.in_ok-insert.ensures.keys
    ∙ sym (placed_run c.pop.new.self c.loop-run.told.keys c.in-Some.run')
    ∙ ap (λ (ds : List Diag). placed diag_order ds c.loop-run.told.keys) (sym c.in-Some.ensures)
    ∙ c.loop-run.invariant
