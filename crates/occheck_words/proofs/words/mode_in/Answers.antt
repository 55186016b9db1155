use Rattle.std.proofs.Common.{map}
use Rattle.occheck_words.proofs.Reading.{asked_taken, fits, refuses}
use Rattle.occheck_words.proofs.words.mode_in.Goals as goal

pub returns-in-Ok : goal.returns-in-Ok
returns-in-Ok c =
    let answer = c.mode_of.ensures in
    let same = asked_taken (map (λ word. word.now) c.args.line.now) _ c.in-Ok.ensures.taken c.in-Ok.ensures.rows in
    let fit = fits c.mode_of.result _ _ same (answer.asked, answer.refused) in
    record { allowed = answer.allowed; asked = fit.0; refused = fit.1 }

pub returns-in_ok-refused-in-Err-clause-refused : goal.returns-in_ok-refused-in-Err-clause-refused
returns-in_ok-refused-in-Err-clause-refused c = refuses (map (λ word. word.now) c.args.line.now) _ _ c.in-Err.ensures.refused c.in_ok-refused-in-Err.ensures.1
