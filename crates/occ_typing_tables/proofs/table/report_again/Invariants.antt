use Rattle.std.proofs.Common.{◌≡◌, ◌++◌, drop}
use Rattle.occ_typing_tables.proofs.table.report_again.Given as goal

abbrev pub invariant-loop-fault : goal.invariant-loop-fault
invariant-loop-fault l = l.faults ++ drop l.fault-index l.reported ≡ l.initial.faults ++ l.reported
