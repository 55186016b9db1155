use Rattle.std.proofs.Common.{◌≡◌, drop}
use Rattle.occ_typing_tables.specs.Terms.{first_known as spec_first_known}
use Rattle.occ_typing_tables.proofs.hiding.first_known.Given as goal

abbrev pub invariant-loop-kind : goal.invariant-loop-kind
invariant-loop-kind l = spec_first_known (drop l.kind-index l.kinds) ≡ spec_first_known l.kinds
