use Rattle.std.proofs.Common.{rules, ◌≡◌, ◌+◌, false, arith}
use Rattle.std.specs.Prelude.{pos, ◌+ℤ◌, ◌||◌}
use Rattle.occ_usage_parts.specs.inside.PlaceSets.{lies_from, place_at}
use Rattle.occ_usage_parts.proofs.Asking.{runs_between}
use Rattle.occ_usage_parts.proofs.place_set.PlaceSet.has_between.Goals as goal

pub returns : goal.returns
returns c =
    let s = c.args.self.now in
    let h : (s.all || lies_from s.from (c.args.first +ℤ pos c.args.more)) ≡ false = search rules in
    let l : c.index-begin.result + c.from.result ≡ c.index-begin.result + c.args.more = omega (arith, c.from.ensures) in
    let e : place_at c.index-begin.result ≡ c.args.first = search rules in
    runs_between s c.index-begin.result c.args.more c.args.first e h c.meet_between.result (c.index-begin.result + c.from.result) l c.meet_between.ensures
