use Rattle.occ_forms_expressions.proofs.Dimensions.{channel_only}
use Rattle.occ_forms_expressions.proofs.types.builtin.Goals as goal

pub returns-clause-only : goal.returns-clause-only
returns-clause-only g c = channel_only _ _ _ _ _ _ c.in-Some-after_word-2.ensures c.channel_words-words.ensures.only c.carried.ensures.any c.carried.ensures.data c.carried.ensures.counted
