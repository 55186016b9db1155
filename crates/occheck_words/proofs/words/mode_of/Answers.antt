use Rattle.clap.specs.Words.{found_of, rows_of}
use Rattle.occheck_words.proofs.Reading.{asked_by, fits}
use Rattle.occheck_words.proofs.words.mode_of.Goals as goal

pub returns : goal.returns
returns c =
    let answer = c.either.ensures in
    let same = asked_by (rows_of (found_of c.args.matches.now)) _ _ _ c.is_stepped.ensures c.workers_of.ensures c.scripts_of.ensures in
    let fit = fits c.either.result _ _ same (answer.asked, answer.refused) in
    record { allowed = answer.allowed; asked = fit.0; refused = fit.1 }
