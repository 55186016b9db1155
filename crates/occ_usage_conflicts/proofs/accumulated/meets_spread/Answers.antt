use Rattle.std.proofs.Common.{rules, ◌≡◌, ◌∙◌, Some, length, sym}
use Rattle.occ_usage_conflicts.proofs.Spreading.{own_list}
use Rattle.occ_usage_conflicts.specs.inside.Beginning.{list_of}
use Rattle.occ_usage_conflicts.proofs.accumulated.meets_spread.Goals as goal

pub returns-in-Some : goal.returns-in-Some
returns-in-Some c spread =
    let its : list_of c.args.part.now (length c.args.lists.now) ≡ Some c.in-Some.at = search rules in
    c.meets_at.ensures ∙ sym (own_list c.args.lists.now c.args.part.now c.in-Some.at spread its)
