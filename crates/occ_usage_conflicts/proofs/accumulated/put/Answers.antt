use Rattle.std.proofs.Common.{not}
use Rattle.occ_usage_parts.specs.Keeping.{meets_some}
use Rattle.occ_usage_parts.specs.Parts.{are_apart}
use Rattle.occ_usage_conflicts.specs.inside.Spreading.{meets_in}
use Rattle.occ_usage_conflicts.proofs.Accumulation.{on_ok}
use Rattle.occ_usage_conflicts.proofs.Spreading.{few_more}
use Rattle.occ_usage_conflicts.proofs.accumulated.put.Goals as goal

pub returns-in-None-clause-meets : goal.returns-in-None-clause-meets
returns-in-None-clause-meets c = on_ok c.add.result (λ h q.
    few_more (meets_some c.args.few.now q) (meets_in c.args.lists.now.items q) (not (are_apart c.args.part.now q)) (meets_some c.add.new.self q) (h q)) c.add.ensures.ok
