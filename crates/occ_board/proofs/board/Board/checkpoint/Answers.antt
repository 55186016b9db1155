use Rattle.std.proofs.Common.{rules, ◌≡◌, ◌∙◌, List, ap}
use Rattle.occ_board.proofs.Begun.{cut_off}
use Rattle.occ_board.proofs.board.Board.checkpoint.Goals as goal
use Rattle.occ_board.specs.Journal.{base_after}
use Rattle.occ_board.specs.declared.base.Base.{Base}
use Rattle.occ_board.specs.declared.entry.Entry.{Entry}

pub invariant_of-self-2 : goal.invariant_of-self-2
invariant_of-self-2 c =
    let base : Base = c.self.inside.base in
    let journal : List Entry = c.self.inside.journal.items in
    let next : c.follow.new.self ≡ base_after base journal = c.in_ok-follow.ensures.ok ∙ ap (base_after base) c.as_slice.ensures.value in (
      cut_off base c.follow.new.self journal c.replace-entries.new.dest.items c.self.inside.cached c.self.inside.graph c.self.inside.flags c.self.inside.opened c.self.inside.units c.self.invariant.0 next (search rules),
      c.self.invariant.1,
      c.self.invariant.2,
      c.self.invariant.3,
    )
