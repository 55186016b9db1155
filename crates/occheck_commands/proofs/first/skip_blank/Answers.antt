use Rattle.std.proofs.Common.{◌∙◌, List, [], ◌∷◌, ℕ, ap, arith, length}
use Rattle.occheck_commands.proofs.FirstLine.{last_of_last}
use Rattle.occheck_commands.proofs.Going.{blank_ending, ended_after}
use Rattle.occheck_commands.proofs.first.skip_blank.Goals as goal

pub loop-following-preserved : goal.loop-following-preserved
loop-following-preserved c = record {
  ended = λ h. ended_after 10 _ _ c.in-Some.ensures (c.loop-following.invariant.ended h);
  line = omega (arith, ap (λ (x : List ℕ). length x) c.in-Some.ensures, c.loop-following.invariant.line);
  last = last_of_last _ _ _ (10 ∷ []) c.loop-following.invariant.last c.in-Some.ensures;
  same = λ over more. blank_ending over _ _ _ more c.in-Some.ensures ∙ c.loop-following.invariant.same over more;
}
