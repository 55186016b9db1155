use Rattle.occ_theorems.proofs.Segments.{inside_holds}
use Rattle.occ_theorems.proofs.parts.segment_law.Goals as goal

pub returns-clause-places : goal.returns-clause-places
returns-clause-places c = inside_holds
