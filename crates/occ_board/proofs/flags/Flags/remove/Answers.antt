use Rattle.std.proofs.Common.{◌≡◌, ◌∙◌, ◌<◌, Bool, List, ap, false, get_or, length, subst, sym}
use Rattle.occ_board.proofs.Counted.{one_less}
use Rattle.occ_board.proofs.flags.Flags.remove.Goals as goal
use Rattle.occ_board.specs.inside.Flagged.{flagged}

pub invariant_of-self : goal.invariant_of-self
invariant_of-self c =
    c.self.invariant
    ∙ one_less c.self.inside.flags.items c.args.index (subst (λ (fs : List Bool). c.args.index < length fs) (sym c.self.view_is) c.requires.within) (subst (λ (fs : List Bool). get_or fs c.args.index false ≡ false) (sym c.self.view_is) c.requires.unset)
    ∙ ap flagged (sym c.remove.ensures.items)
