use Rattle.std.proofs.Common.{rules, ◌≡◌, true}
use Rattle.occ_usage_lines.specs.inside.Noting.{ends_from}
use Rattle.occ_usage_lines.proofs.Listing.{popped}
use Rattle.occ_usage_lines.proofs.noting.strike_last.Goals as goal

pub loop-numbers-preserved : goal.loop-numbers-preserved
loop-numbers-preserved c n below e =
    let from : ends_from c.loop-numbers.numbers c.args.depth ≡ true = search rules in
    popped c.pop.result c.loop-numbers.numbers c.pop.new.self c.args.depth n c.pop.ensures from below (c.loop-numbers.invariant n below e)
