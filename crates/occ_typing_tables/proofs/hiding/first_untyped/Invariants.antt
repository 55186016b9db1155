use Rattle.std.proofs.Common.{◌≡◌, drop}
use Rattle.occ_typing_tables.specs.Terms.{first_untyped as spec_first_untyped}
use Rattle.occ_typing_tables.proofs.hiding.first_untyped.Given as goal

abbrev pub invariant-loop-kind : goal.invariant-loop-kind
invariant-loop-kind l = spec_first_untyped (drop l.kind-index l.kinds) ≡ spec_first_untyped l.kinds
