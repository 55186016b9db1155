use Rattle.occheck_commands.specs.Lines.{whole_lines}
use Rattle.occheck_commands.specs.Script.{is_over}
use Rattle.occ_theorems.proofs.Says.{found, only}
use Rattle.occ_theorems.proofs.machine.script_law.Goals as goal

pub returns-clause-found : goal.returns-clause-found
returns-clause-found c = λ bytes. found (is_over bytes) 1 (whole_lines bytes)

pub returns-clause-only : goal.returns-clause-only
returns-clause-only c = λ bytes script said. only (is_over bytes) 1 (whole_lines bytes) script said
