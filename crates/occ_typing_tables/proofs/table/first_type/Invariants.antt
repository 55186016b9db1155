use Rattle.std.proofs.Common.{◌≡◌, drop}
use Rattle.occ_typing_tables.specs.Terms.{first_type as type_of_first}
use Rattle.occ_typing_tables.proofs.table.first_type.Given as goal

abbrev pub invariant-loop-kind : goal.invariant-loop-kind
invariant-loop-kind l = type_of_first l.of (drop l.kind-index l.kinds) ≡ type_of_first l.of l.kinds
