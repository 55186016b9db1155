use Rattle.std.proofs.Common.{◌≡◌, ◌+◌, ◌-◌, ap, arith, drop, length}
use Rattle.occheck_commands.specs.Lines.{feeds}
use Rattle.occheck_commands.proofs.Places.{feeds_at, no_feed}
use Rattle.occheck_commands.proofs.lines.lines_lacking.Goals as goal

pub loop-lacking-preserved : goal.loop-lacking-preserved
loop-lacking-preserved c =
    let left = c.loop-lacking.left.now in
    let following = c.split_at.result.1.now in
    let one : feeds left ≡ 1 + feeds (drop (c.in-Some.place + 1) left) = feeds_at left c.in-Some.place c.in-Some.ensures in
    let behind : feeds following ≡ feeds (drop (c.in-Some.place + 1) left) = ap feeds c.split_at.ensures.back in
    let short : length following + (c.in-Some.place + 1) ≡ length left = omega (arith, c.split_at.ensures.back_len) in
    record {
      few = omega (arith, c.loop-lacking.invariant.few, short);
      count = omega (arith, c.loop-lacking.invariant.count, one, behind);
    }

pub returns-in_default : goal.returns-in_default
returns-in_default c =
    let none : feeds c.loop-lacking.left.now ≡ 0 = no_feed c.loop-lacking.left.now c.in_default.ensures in
    omega (arith, c.loop-lacking.invariant.count, none)
