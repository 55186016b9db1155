use Rattle.std.proofs.Common.{drop}
use Rattle.occ_types.specs.declared.types.OccType.TheVariants as t
use Rattle.occ_typing_tables.specs.Terms.{judged_all}
use Rattle.occ_typing_tables.specs.inside.Plain.{ArePlain}
use Rattle.occ_typing_tables.proofs.counted.are_plain.Given as goal

abbrev pub invariant-loop-item : goal.invariant-loop-item
invariant-loop-item l = ArePlain (t.Primitive l.of) (judged_all (drop l.item-index l.items)) → ArePlain (t.Primitive l.of) (judged_all l.items)
