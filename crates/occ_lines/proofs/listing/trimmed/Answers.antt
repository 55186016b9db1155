use Rattle.std.proofs.Common.{◌∙◌, arith, sym}
use Rattle.occ_lines.proofs.Lists.{trimmed_at}
use Rattle.occ_lines.proofs.listing.trimmed.Goals as goal
use Rattle.occ_lines.proofs.listing.trimmed.Goals.{then-loop-len-test+else-is_blank, else-loop-len-test}

pub returns : goal.returns
returns c =
    c.split_at.ensures.front
    ∙ trimmed_at c.args.text.now c.loop-len.len c.loop-len.invariant.within c.loop-len.invariant.blanks (λ some. elim c.loop-len-test.branch [
      | then-loop-len-test+else-is_blank w ↦ sym w.is_blank.ensures ∙ w.if-is_blank.false
      | else-loop-len-test w ↦ let none = w.loop-len-test.false in absurd (omega (arith, some, none))
    ])
