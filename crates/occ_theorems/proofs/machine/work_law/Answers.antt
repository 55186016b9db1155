use Rattle.occ_theorems.proofs.Working.{worked}
use Rattle.occ_theorems.proofs.machine.work_law.Goals as goal

pub returns : goal.returns
returns c = λ s es based spelled work. worked c.source_law.ensures c.reads_law.ensures.alone c.reads_law.ensures.itself c.done_law.ensures.project c.done_law.ensures.done c.height_law.ensures c.base_law.ensures.after s es based spelled work
