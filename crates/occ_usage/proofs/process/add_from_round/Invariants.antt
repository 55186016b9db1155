use Rattle.std.proofs.Common.{◌≡◌, ◌++◌, drop}
use Rattle.occ_usage.specs.Processes.{from_round as reported}
use Rattle.occ_usage.proofs.process.add_from_round.Given as goal

abbrev pub invariant-loop-one : goal.invariant-loop-one
invariant-loop-one l = l.found ++ reported l.depth (drop l.one-index l.uses) ≡ l.initial.found ++ reported l.depth l.uses
