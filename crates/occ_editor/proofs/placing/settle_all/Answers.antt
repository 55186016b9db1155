use Rattle.std.proofs.Common.{◌∙◌, ap}
use Rattle.occ_board.specs.Machine.{State, files_of}
use Rattle.occ_editor.proofs.Settled.{settles}
use Rattle.occ_editor.proofs.placing.settle_all.Goals as goal

pub returns-clause-same : goal.returns-clause-same
returns-clause-same c = ap (λ (s : State). files_of s) c.in_ok-settle.ensures ∙ settles c.args.board.now
