use Rattle.occheck_script.proofs.Working.{worked_once}
use Rattle.occheck_script.proofs.settling.work_once.Goals as goal

pub returns : goal.returns
returns c = worked_once _ _ _ _ c.work.ensures.worked c.work.ensures.after c.work.ensures.none
