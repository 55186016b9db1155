use Rattle.std.proofs.Common.{◌∙◌, Some, ap, sym}
use Rattle.occ_base.specs.Firsts.{first_indices}
use Rattle.occ_lines.proofs.Lists.{broken, finished, goes_begins, goes_on, goes_skips}
use Rattle.occ_lines.proofs.listing.listed.Goals as goal

pub loop-line-init : goal.loop-line-init
loop-line-init c = record { goes = goes_begins _ _ _ c.new-units.ensures (c.into_iter-line-iterator.ensures.into_iter_gives ∙ c.lines-line-items.ensures.value) }

pub returns : goal.returns
returns c =
    ap Some (c.in_ok-first_indices.ensures ∙ ap first_indices c.as_slice.ensures) ∙ finished c.args.text.now c.loop-line.units c.loop-line.line-iterator c.in-None.ensures.steps.0 c.loop-line.invariant.goes
