use Rattle.std.proofs.Common.{rules, ◌≡◌, ◌∙◌, ◌+◌, ◌∷◌, drop, take, length, slice_index_or}
use Rattle.std.specs.Prelude.{min}
use Rattle.std.proofs.lemmas.List.{drop_all, drop_more}
use Rattle.occ_usage_conflicts.proofs.Parting.{part_all, part_more, part_none}
use Rattle.occ_usage_conflicts.proofs.accumulate.parted_root_uses.Goals as goal

pub loop-size-init : goal.loop-size-init
loop-size-init c = (c.in_ok-roots.ensures.0, part_none c.args.sizes.now c.args.uses.now c.in_ok-roots.roots.items c.in_ok-roots.ensures.1)

pub loop-size-preserved : goal.loop-size-preserved
loop-size-preserved c =
    let sizes = c.args.sizes.now in
    let i = c.loop-size.size-index in
    let split : drop i sizes ≡ slice_index_or sizes i 0 ∷ drop (i + 1) sizes = drop_more sizes i 0 c.loop-size-test.true in
    let took : c.split_at.result.0.now ≡ take (min (slice_index_or sizes i 0) (length c.loop-size.rest.now)) c.loop-size.rest.now = search rules in
    let following : c.split_at.result.1.now ≡ drop (min (slice_index_or sizes i 0) (length c.loop-size.rest.now)) c.loop-size.rest.now = search rules in (
      c.in_ok-step.ensures.0 ∙ c.loop-size.invariant.0,
      part_more sizes c.args.uses.now _ (slice_index_or sizes i 0) _ _ _ _ _ _ c.loop-size.invariant.1 split took following c.in_ok-step.ensures.1,
    )

pub returns : goal.returns
returns c = (c.loop-size.invariant.0, part_all c.args.sizes.now c.args.uses.now _ _ _ c.loop-size.invariant.1 (drop_all c.loop-size.size-index c.args.sizes.now c.loop-size-test.false))
