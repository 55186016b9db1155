use Rattle.std.proofs.Common.{◌∙◌, ◌≤◌, Bool, List, ap, length, subst, sym}
use Rattle.occ_board.proofs.Counted.{one_more}
use Rattle.occ_board.proofs.flags.Flags.insert.Goals as goal
use Rattle.occ_board.specs.inside.Flagged.{flagged}

pub invariant_of-self-2 : goal.invariant_of-self-2
invariant_of-self-2 c =
    c.self.invariant
    ∙ one_more c.self.inside.flags.items c.args.index (subst (λ (fs : List Bool). c.args.index ≤ length fs) (sym c.self.view_is) c.requires)
    ∙ ap flagged (sym c.in_ok-insert.ensures.items)
