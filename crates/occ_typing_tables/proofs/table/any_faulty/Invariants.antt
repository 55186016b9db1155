use Rattle.std.proofs.Common.{◌≡◌, drop}
use Rattle.std.specs.List.{list_any}
use Rattle.occ_typing_operands.specs.Operators.{is_faulty as faulty}
use Rattle.occ_typing_tables.proofs.table.any_faulty.Given as goal

abbrev pub invariant-loop-kind : goal.invariant-loop-kind
invariant-loop-kind l = list_any faulty (drop l.kind-index l.kinds) ≡ list_any faulty l.kinds
