use Rattle.std.proofs.Common.{◌≡◌, ◌∙◌, List, ap}
use Rattle.occ_board.specs.Journal.{replay}
use Rattle.occ_board.specs.declared.base.Base.{Base}
use Rattle.occ_board.specs.declared.report.Row.{Row}
use Rattle.occ_server.specs.Snapshots.{whole_rows}
use Rattle.occheck_script.specs.Machine.{reports_errors}
use Rattle.occheck_sessions.proofs.run.whole_output.Goals as goal

pub returns : goal.returns
returns g c = λ read r. (
  c.in_ok-ended.ended.entries,
  c.in_ok-text.ensures.run read r,
  c.reports_errors.ensures ∙ ap (λ (rows : List Row). reports_errors rows)
      (c.report.ensures.rows ∙ c.report.ensures.known.whole ∙ ap (λ (base : Base). whole_rows (replay base c.in_ok-ended.ended.entries)) c.in_ok-text.ensures.first),
)
