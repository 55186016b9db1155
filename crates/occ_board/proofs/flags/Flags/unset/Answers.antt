use Rattle.std.proofs.Common.{◌≡◌, ◌∙◌, Bool, List, ap, arith, false, get_or, sym, true}
use Rattle.occ_board.proofs.Counted.{one_unset}
use Rattle.occ_board.proofs.flags.Flags.unset.Goals as goal

pub overflow_sub-self : goal.overflow_sub-self
overflow_sub-self c =
    let some : get_or c.self.inside.flags.items c.args.index false ≡ true = ap (λ (fs : List Bool). get_or fs c.args.index false) (sym c.as_slice.ensures.value) ∙ sym c.if-is_flagged.ensures in
    let one = one_unset c.self.inside.flags.items c.args.index some in
    let is = c.self.invariant in
    omega (arith, one, is)

pub invariant_of-self : goal.invariant_of-self
invariant_of-self c =
    let some : get_or c.self.inside.flags.items c.args.index false ≡ true = ap (λ (fs : List Bool). get_or fs c.args.index false) (sym c.as_slice.ensures.value) ∙ sym c.if-is_flagged.ensures in
    let one = one_unset c.self.inside.flags.items c.args.index some in
    let is = c.self.invariant in
    omega (arith, one, is)
