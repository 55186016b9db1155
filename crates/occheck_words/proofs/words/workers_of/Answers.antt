use Rattle.std.proofs.Common.{codes}
use Rattle.std.specs.Str.Parse.{ExplainsUnsignedError, HasUnsignedDigitsIfOk, ParsesUnsigned}
use Rattle.clap.specs.Words.{found_of}
use Rattle.occheck_words.proofs.Reading.{workers_are}
use Rattle.occheck_words.proofs.words.workers_of.Goals as goal

pub returns : goal.returns
returns c = workers_are (λ bs r. ParsesUnsigned 8 10 bs r × ExplainsUnsignedError 10 bs r × HasUnsignedDigitsIfOk bs r) (found_of c.args.matches.now) (codes "workers") c.get_one.result (λ u x g. g.0) c.get_one.ensures.none c.get_one.ensures.value
