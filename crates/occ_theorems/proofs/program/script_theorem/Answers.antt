use Rattle.occ_board.proofs.Bases.{nothing_is}
use Rattle.occheck_script.specs.Machine.{start}
use Rattle.occheck_script.specs.Output.{state_after}
use Rattle.occ_theorems.proofs.Bases.{state_base}
use Rattle.occ_theorems.proofs.program.script_theorem.Goals as goal

pub returns-clause-reports : goal.returns-clause-reports
returns-clause-reports g c = λ read commands. c.right_report_law.ensures (state_after read start commands).board (state_base c.base_law.ensures.after read start commands nothing_is)
