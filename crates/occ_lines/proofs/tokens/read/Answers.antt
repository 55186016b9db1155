use Rattle.std.proofs.Common.{◌∙◌, sym}
use Rattle.occ_lines.proofs.Reading.{is_done, smaller, stop_end, whole_end}
use Rattle.occ_lines.proofs.tokens.read.Goals as goal

pub rest-smaller : goal.rest-smaller
rest-smaller c = smaller _ c.in-Ok.after.now _ c.after_blanks-rest.ensures (rw c.in-Ok.is at c.in_ok-token.ensures.shorter)

pub returns-in-Err : goal.returns-in-Err
returns-in-Err c = is_done _ _ _ _ _ c.rest.invariant (stop_end _ _ (sym c.is_end.ensures ∙ c.rest-test.true) (rw c.in-Err.is at c.in_ok-token.ensures.stops))

pub returns : goal.returns
returns c = is_done _ _ _ _ _ c.rest.invariant (whole_end c.rest.rest.now (sym c.is_end.ensures ∙ c.rest-test.false))
