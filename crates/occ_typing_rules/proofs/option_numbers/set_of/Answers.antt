use Rattle.std.proofs.Common.{pos, rules}
use Rattle.occ_typing_rules.proofs.Numbers.{put_taken}
use Rattle.occ_typing_rules.proofs.option_numbers.set_of.Goals as goal

pub loop-number-preserved : goal.loop-number-preserved
loop-number-preserved c =
    let more = put_taken c.args.numbers.now c.loop-number.number-index (pos 0) c.requires c.loop-number-test.true in
    search (rules, more)
