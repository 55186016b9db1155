use Rattle.std.proofs.Common.{◌≡◌, drop, Some}
use Rattle.occ_typing_tables.specs.Terms.{merged_all as merging_all}
use Rattle.occ_typing_tables.proofs.table.merged_all.Given as goal

abbrev pub invariant-loop-kind : goal.invariant-loop-kind
invariant-loop-kind l = merging_all l.found (drop l.kind-index l.kinds) ≡ merging_all (Some l.of) l.kinds
