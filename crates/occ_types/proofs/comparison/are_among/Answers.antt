use Rattle.std.proofs.Common.{rules, List, take, subst}
use Rattle.occ_types.specs.declared.interface.FormalUse.{FormalUse}
use Rattle.occ_types.specs.Interface.{IsWithin}
use Rattle.occ_types.proofs.Lists.{within_end, within_not}
use Rattle.occ_types.proofs.comparison.are_among.Goals as goal

pub returns-then-not-is_among : goal.returns-then-not-is_among
returns-then-not-is_among c = within_not c.is_among.result c.args.uses.now c.args.others.now c.loop-place.place c.one-item.result (search rules) (search rules) (search rules) (search rules)

pub returns : goal.returns
returns c = within_end c.args.uses.now c.args.others.now c.loop-place.place (search rules) (subst (λ (ys : List FormalUse). IsWithin (take c.loop-place.place c.args.uses.now) ys) c.as_slice-others.ensures c.loop-place.invariant)
