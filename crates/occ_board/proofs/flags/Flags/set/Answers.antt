use Rattle.std.proofs.Common.{◌≡◌, ◌∙◌, ◌<◌, Bool, List, ap, arith, false, get_or, length, sym}
use Rattle.occ_board.proofs.Counted.{flagged_under, one_set}
use Rattle.occ_board.proofs.flags.Flags.set.Goals as goal

pub overflow_add-self : goal.overflow_add-self
overflow_add-self c =
    let within : c.args.index < length c.self.inside.flags.items = let under = c.if-index-len.true in let long = c.len.ensures in omega (arith, under, long) in
    let none : get_or c.self.inside.flags.items c.args.index false ≡ false = ap (λ (fs : List Bool). get_or fs c.args.index false) (sym c.as_slice.ensures.value) ∙ sym c.if-not-is_flagged.ensures in
    let least = flagged_under c.self.inside.flags.items c.args.index within none in
    let is = c.self.invariant in
    let long = c.len.ensures in
    let fits = c.len.type_inv in
    omega (arith, least, is, long, fits)

pub invariant_of-self : goal.invariant_of-self
invariant_of-self c =
    let within : c.args.index < length c.self.inside.flags.items = let under = c.if-index-len.true in let long = c.len.ensures in omega (arith, under, long) in
    let none : get_or c.self.inside.flags.items c.args.index false ≡ false = ap (λ (fs : List Bool). get_or fs c.args.index false) (sym c.as_slice.ensures.value) ∙ sym c.if-not-is_flagged.ensures in
    let one = one_set c.self.inside.flags.items c.args.index within none in
    let is = c.self.invariant in
    omega (arith, one, is)
