use Rattle.std.proofs.Common.{subst, sym, Bool, ◌+◌}
use Rattle.occ_board.proofs.Settled.{IsPass, advanced, begun, stayed}
use Rattle.occ_board.proofs.flags.pass.Goals as goal
use Rattle.occ_board.proofs.flags.pass.Goals.{then-advance, else-advance}

pub loop-index-init : goal.loop-index-init
loop-index-init c = (begun c.args.graph.now c.args.cached.now c.args.flags.now c.requires.len c.requires.sound, c.requires.verified)

pub loop-index-preserved : goal.loop-index-preserved
loop-index-preserved c = elim c.if-advance.branch [
  | then-advance w ↦ (
    subst (λ (b : Bool). IsPass c.args.graph.now c.args.cached.now c.args.flags.now c.advance.new.flags b (c.loop-index.index + 1)) (sym w.advanced-is)
        (advanced c.args.graph.now c.args.cached.now c.args.flags.now c.loop-index.flags c.advance.new.flags c.loop-index.advanced c.loop-index.index c.loop-index.invariant.0 c.advance.ensures.len c.advance.ensures.sound (c.advance.ensures.fewer w.if-advance.true)),
    c.advance.ensures.verified,
  )
  | else-advance w ↦ (
    subst (λ (b : Bool). IsPass c.args.graph.now c.args.cached.now c.args.flags.now c.advance.new.flags b (c.loop-index.index + 1)) (sym w.advanced-is)
        (stayed c.args.graph.now c.args.cached.now c.args.flags.now c.loop-index.flags c.advance.new.flags c.loop-index.advanced c.loop-index.index c.loop-index.invariant.0 (c.advance.ensures.same w.if-advance.false) (c.advance.ensures.full w.if-advance.false)),
    c.advance.ensures.verified,
  )
]
