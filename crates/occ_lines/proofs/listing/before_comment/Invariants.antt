use Rattle.std.proofs.Common.{◌≡◌, ◌++◌, drop, take}
use Rattle.occ_lines.specs.Listing.{before_comment}
use Rattle.occ_lines.proofs.listing.before_comment.Given as goal

abbrev pub invariant-loop-i : goal.invariant-loop-i
invariant-loop-i l = take l.i l.line ++ before_comment (drop l.i l.line) ≡ before_comment l.line
