use Rattle.std.proofs.Common.{arith, sym, ◌∙◌}
use Rattle.occ_scope.proofs.meanings.Meanings.root_of.Goals as goal

pub loop-next-smaller : goal.loop-next-smaller
loop-next-smaller c =
    let no_later = (c.self.invariant.same c.loop-next.place c.in-Some.next.now (sym c.in-Some.ensures.value)).0 in
    omega (arith, no_later, c.if-next-place.false)

pub loop-next-preserved : goal.loop-next-preserved
loop-next-preserved c = (c.self.invariant.same c.loop-next.place c.in-Some.next.now (sym c.in-Some.ensures.value)).1 ∙ c.loop-next.invariant
