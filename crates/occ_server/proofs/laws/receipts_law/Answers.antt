use Rattle.occ_server.proofs.Offs.{only_these, reported_is, rise_all}
use Rattle.occ_server.proofs.laws.receipts_law.Goals as goal

pub returns-clause-same : goal.returns-clause-same
returns-clause-same c = reported_is

pub returns-clause-only : goal.returns-clause-only
returns-clause-only c = only_these

pub returns-clause-rises : goal.returns-clause-rises
returns-clause-rises c = rise_all
