use Rattle.std.proofs.Common.{◌≡◌, arith, length}
use Rattle.occ_board.proofs.Likeness.{alike_places}
use Rattle.occ_board.proofs.comparing.are_alike_reads.Goals as goal

pub returns : goal.returns
returns c = λ _.
    let same : length c.args.a.now ≡ length c.args.b.now = omega (arith, c.if-a-b.false) in
    alike_places c.args.a.now c.args.b.now same (λ i d lt. c.loop-i.invariant i d (omega (arith, lt, c.loop-i-test.false)))
