use Rattle.std.proofs.Common.{rules, ◌≡◌, ◌∙◌, ap, List, [], ◌∷◌, ◌++◌}
use Rattle.occ_types.specs.declared.interface.PartSelector.{PartSelector}
use Rattle.occ_usage_conflicts.specs.inside.Spreading.{meets_in}
use Rattle.occ_usage_conflicts.proofs.Spreading.{empty_spread, one_more_empty}
use Rattle.occ_usage_conflicts.proofs.accumulated.no_lists.Goals as goal

pub loop-made-preserved : goal.loop-made-preserved
loop-made-preserved c q =
    let more : c.push.new.self.items ≡ c.loop-made.lists.items ++ [] ∷ [] = search rules in
    ap (λ (ls : List (List (List PartSelector))). meets_in ls q) more ∙ one_more_empty c.loop-made.lists.items c.loop-made.invariant q

pub returns : goal.returns
returns c = (empty_spread c.loop-made.lists.items c.loop-made.invariant, c.loop-made.invariant)
