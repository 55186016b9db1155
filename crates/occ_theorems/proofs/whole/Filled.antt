-- Filling a type in keeps how many dimensions it has, and that nothing in it is unknown.
use Rattle.std.proofs.Common.{◌≡◌, ◌∙◌, ℕ, suc, Option, Some, None, refl, ap, sym}
use Rattle.occ_typing_tables.specs.Merging.{filled, known_count}
use Rattle.occ_typing_tables.proofs.Filling.{filled_alone, filled_both, filled_itself}
use Rattle.occ_types.specs.declared.types.OccType.{OccType}
use Rattle.occ_types.specs.declared.types.OccType.TheVariants as t
use Rattle.occ_types.specs.Unknown.{holds_unknown}
use Rattle.occ_types.specs.View.{as_array}
use Rattle.occ_types.proofs.Agreeing.{as_array_at_array, as_array_at_channel, as_array_at_named, as_array_at_primitive, as_array_at_record, as_array_at_timer, as_array_at_unknown}
use Rattle.occ_types.proofs.Unknowns.{unknown_array}
use Rattle.occ_theorems.proofs.whole.Types.{depth, depth_array, every_type}

abbrev Cached : OccType → Type 0
Cached a = (b : OccType) → (holds_unknown (filled a b) ≡ holds_unknown a) × (depth (filled a b) ≡ depth a)

array_cached : (n : Option ℕ) (inner b : OccType) (o : Option (Option ℕ × OccType)) → Cached inner → as_array b ≡ o → (holds_unknown (filled (t.Array n inner) b) ≡ holds_unknown (t.Array n inner)) × (depth (filled (t.Array n inner) b) ≡ depth (t.Array n inner))
array_cached n inner b None below is = let e = filled_alone n inner b is in (ap holds_unknown e, ap depth e)
array_cached n inner b (Some parts) below is =
    let e = filled_both n parts.0 inner parts.1 b is in (
      ap holds_unknown e ∙ unknown_array (known_count n parts.0) (filled inner parts.1) ∙ (below parts.1).0 ∙ sym (unknown_array n inner),
      ap depth e ∙ depth_array (known_count n parts.0) (filled inner parts.1) ∙ ap suc (below parts.1).1 ∙ sym (depth_array n inner),
    )

itself : (a b : OccType) → as_array a ≡ None → (holds_unknown (filled a b) ≡ holds_unknown a) × (depth (filled a b) ≡ depth a)
itself a b is =
    let e : filled a b ≡ a = filled_itself a b (λ n inner h. let g : None ≡ Some (n, inner) = sym is ∙ ap as_array h ∙ as_array_at_array n inner in absurd cc) in
    (ap holds_unknown e, ap depth e)

pub filled_cached : (a : OccType) → Cached a
filled_cached = every_type {P = Cached} record {
  primitive = λ x b. itself (t.Primitive x) b (as_array_at_primitive x);
  array = λ n inner below b. array_cached n inner b (as_array b) below refl;
  record_type = λ packing fields b. itself (t.Record packing fields) b (as_array_at_record packing fields);
  named = λ name inner below b. itself (t.Named name inner) b (as_array_at_named name inner);
  channel = λ c b. itself (t.Channel c) b (as_array_at_channel c);
  timer = λ b. itself t.Timer b as_array_at_timer;
  unknown = λ b. itself t.Unknown b as_array_at_unknown;
}
