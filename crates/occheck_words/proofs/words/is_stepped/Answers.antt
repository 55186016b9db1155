use Rattle.std.proofs.Common.{◌∙◌, codes}
use Rattle.clap.specs.Words.{found_of}
use Rattle.occheck_words.proofs.Reading.{flag_is}
use Rattle.occheck_words.proofs.words.is_stepped.Goals as goal

pub returns : goal.returns
returns c = c.unwrap_or.ensures ∙ flag_is _ (found_of c.args.matches.now) (codes "steps") c.get_one.result c.get_one.ensures.none c.get_one.ensures.value
