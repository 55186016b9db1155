use Rattle.std.proofs.Common.{ap, map, ◌∙◌}
use Rattle.occheck_words.proofs.Reading.{asked_some, fits}
use Rattle.occheck_words.proofs.words.read_words.Goals as goal

pub returns : goal.returns
returns c =
    let answer = c.mode_in.ensures in
    let line = ap (map (λ word. word.now)) c.as_slice.ensures.value ∙ c.in_ok-line.ensures in
    let same = asked_some c.args.words.now c.as_slice.result.now c.if-is_empty.ensures line in
    let fit = fits c.mode_in.result _ _ same (answer.asked, answer.refused) in
    record { allowed = answer.allowed; asked = fit.0; refused = fit.1 }
