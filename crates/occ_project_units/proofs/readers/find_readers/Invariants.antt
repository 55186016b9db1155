use Rattle.occ_project_units.proofs.OtherReaders.{IsFinding}
use Rattle.occ_project_units.proofs.readers.find_readers.Given as goal

abbrev pub invariant-loop-index : goal.invariant-loop-index
invariant-loop-index l = IsFinding l.project l.facts l.rows.items l.index
