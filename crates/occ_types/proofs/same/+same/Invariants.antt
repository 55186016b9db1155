use Rattle.std.proofs.Common.{◌≡◌, take}
use Rattle.occ_types.proofs.same.+same.Given as goal

abbrev pub invariant-same_fields-loop-i : goal.invariant-same_fields-loop-i
invariant-same_fields-loop-i l = take l.i l.a ≡ take l.i l.b

abbrev pub invariant-same_items-loop-i : goal.invariant-same_items-loop-i
invariant-same_items-loop-i l = take l.i l.a ≡ take l.i l.b

abbrev pub invariant-same_tags-loop-i : goal.invariant-same_tags-loop-i
invariant-same_tags-loop-i l = take l.i l.a ≡ take l.i l.b
