-- What is asked of a channel that carries one item, from what is asked of the type in the item.
use Rattle.std.proofs.Common.{◌≡◌, [], ◌∷◌, Bool, true, false, refl, ap, ◌∙◌, arith}
use Rattle.std.specs.Prelude.{◌||◌}
use Rattle.occ_types.specs.declared.types.Item.TheVariants as i
use Rattle.occ_types.specs.declared.types.OccType.{OccType}
use Rattle.occ_types.specs.declared.types.OccType.TheVariants as t
use Rattle.occ_types.specs.declared.types.Protocol.TheVariants as p
use Rattle.occ_types.specs.declared.value.Primitive.{Primitive}
use Rattle.occ_types.specs.declared.measure.Measure.{Measure}
use Rattle.occ_types.specs.Measure.{none, one, above, beside, measure_of, held}
use Rattle.occ_types.specs.Unknown.{holds_unknown}
use Rattle.occ_types.proofs.Measures.{measure_channel, measure_counted, measure_sequence, measure_value, same_measure}
use Rattle.occ_types.proofs.Unknowns.{unknown_channel, unknown_counted, unknown_sequence, unknown_value}

beside_none : (m : Measure) → beside m none ≡ m
beside_none m = same_measure _ _ _ _ (omega arith) (omega arith)

or_false : (b : Bool) → (b || false) ≡ b
or_false true = refl
or_false false = refl

pub measure_values : (of : OccType) → measure_of (t.Channel (p.Sequence (i.Value of ∷ []))) ≡ above (measure_of of)
measure_values of = measure_channel _ ∙ ap above (measure_sequence _ ∙ beside_none _ ∙ measure_value of)

pub measure_counted_values : (count : Primitive) (of : OccType) → measure_of (t.Channel (p.Sequence (i.Counted count of ∷ []))) ≡ above (beside one (above (measure_of of)))
measure_counted_values count of = measure_channel _ ∙ ap above (measure_sequence _ ∙ beside_none _ ∙ measure_counted count of)

pub held_counted : (m : Measure) → held (above (held (beside one (held (above (held m)))))) ≡ held (above (beside one (above m)))
held_counted m = same_measure _ _ _ _ (omega arith) (omega arith)

pub unknown_values : (of : OccType) → holds_unknown (t.Channel (p.Sequence (i.Value of ∷ []))) ≡ holds_unknown of
unknown_values of = unknown_channel _ ∙ unknown_sequence _ ∙ or_false _ ∙ unknown_value of

pub unknown_counted_values : (count : Primitive) (of : OccType) → holds_unknown (t.Channel (p.Sequence (i.Counted count of ∷ []))) ≡ holds_unknown of
unknown_counted_values count of = unknown_channel _ ∙ unknown_sequence _ ∙ or_false _ ∙ unknown_counted count of

-- what channels of known types need
pub ruleset channel_rules = (measure_values, measure_counted_values, held_counted, unknown_values, unknown_counted_values)
