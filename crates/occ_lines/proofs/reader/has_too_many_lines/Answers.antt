use Rattle.std.proofs.Common.{arith}
use Rattle.bstr.proofs.lemmas.LengthLemmas.{length-lines_of}
use Rattle.occ_lines.proofs.reader.has_too_many_lines.Goals as goal

pub returns-then-text-le-MOST_LINES : goal.returns-then-text-le-MOST_LINES
returns-then-text-le-MOST_LINES c = let most = length-lines_of c.args.text.now in (λ h. absurd cc, λ h. absurd (omega arith))
