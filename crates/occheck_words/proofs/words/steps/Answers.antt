use Rattle.occheck_words.proofs.words.steps.Goals as goal

pub returns-in_ok-from_str-in-len1-clause-allowed : goal.returns-in_ok-from_str-in-len1-clause-allowed
returns-in_ok-from_str-in-len1-clause-allowed c = tt
