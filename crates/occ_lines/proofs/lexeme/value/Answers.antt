use Rattle.std.proofs.Common.{◌+◌, arith}
use Rattle.std.proofs.lemmas.Grind.{common_steps}
use Rattle.occ_lines.proofs.Digits.{front_le, one_more}
use Rattle.occ_lines.proofs.lexeme.value.Goals as goal

pub returns-in_err-value : goal.returns-in_err-value
returns-in_err-value c =
    let i = c.loop-digit.digit-index in
    let more = one_more c.args.radix c.args.digits.now i c.loop-digit.value (omega arith) c.loop-digit.invariant.so_far in
    let front = front_le c.args.radix c.args.digits.now (i + 1) c.requires.some in
    rw c.from_residual.ensures (λ small. c.in_err-value.ensures (omega arith))

pub loop-digit-preserved : goal.loop-digit-preserved
loop-digit-preserved c =
    let i = c.loop-digit.digit-index in
    let more = one_more c.args.radix c.args.digits.now i c.loop-digit.value (omega arith) c.loop-digit.invariant.so_far in
    grind (arith, common_steps, more, c.in_ok-value.ensures)
