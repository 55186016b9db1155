use Rattle.std.proofs.Common.{◌∙◌, ap}
use Rattle.occ_board.specs.Machine.{State}
use Rattle.occ_files_check.proofs.Settled.{based, settles}
use Rattle.occ_files_check.proofs.checking.settle_all.Goals as goal

pub returns-clause-journal : goal.returns-clause-journal
returns-clause-journal c = ap (λ (s : State). s.journal) c.in_ok-settle.ensures ∙ settles c.args.board.now

pub returns-clause-base : goal.returns-clause-base
returns-clause-base c = ap (λ (s : State). s.base) c.in_ok-settle.ensures ∙ based c.args.board.now
