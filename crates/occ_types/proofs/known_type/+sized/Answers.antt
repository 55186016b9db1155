use Rattle.std.proofs.Common.{◌∙◌, Bool, ap, sym}
use Rattle.std.specs.Prelude.{◌||◌}
use Rattle.occ_types.specs.Large.{is_oversized as spec_is_oversized}
use Rattle.occ_types.specs.declared.types.OccType.TheVariants as t
use Rattle.occ_types.proofs.Larges.{oversized_nest}
use Rattle.occ_types.proofs.known_type.+sized.Goals as goal

-- src/known_type.rt:51:1
pub returns-then-is_over-clause-oversized : goal.returns-then-is_over-clause-oversized
returns-then-is_over-clause-oversized run c =
    c.if-is_over.true ∙ sym (ap (λ (r : Bool). r || spec_is_oversized c.get.result.now) c.if-is_over.true)
    ∙ oversized_nest c.args.of.now c.get.result.now c.in-Array.count c.sized-extent.result.0 c.array_extent-extent.result c.is_over.result (c.in-Array.is ∙ ap (t.Array c.in-Array.count) (sym c.get.ensures)) c.sized-extent.ensures.extent c.array_extent-extent.ensures.value c.is_over.ensures

-- src/known_type.rt:51:1
pub returns-else-is_over-clause-oversized : goal.returns-else-is_over-clause-oversized
returns-else-is_over-clause-oversized run c =
    c.sized-extent.ensures.oversized ∙ sym (ap (λ (r : Bool). r || spec_is_oversized c.get.result.now) c.if-is_over.false)
    ∙ oversized_nest c.args.of.now c.get.result.now c.in-Array.count c.sized-extent.result.0 c.array_extent-extent.result c.is_over.result (c.in-Array.is ∙ ap (t.Array c.in-Array.count) (sym c.get.ensures)) c.sized-extent.ensures.extent c.array_extent-extent.ensures.value c.is_over.ensures
