use Rattle.std.proofs.Common.{rules, ◌≡◌, ◌∙◌, ◌++◌, ◌||◌, Bool, List, ap, not, sym}
use Rattle.occ_usage_parts.specs.Keeping.{meets_some}
use Rattle.occ_usage_parts.specs.Parts.{are_apart}
use Rattle.occ_types.specs.declared.interface.PartSelector.{PartSelector}
use Rattle.occ_usage_conflicts.specs.inside.Spreading.{all_in}
use Rattle.occ_usage_conflicts.proofs.Accumulation.{on_ok}
use Rattle.occ_usage_conflicts.proofs.Spreading.{accumulated_meets}
use Rattle.occ_usage_conflicts.proofs.accumulated.Accumulated.add.Goals as goal

pub returns : goal.returns
returns c =
    let view : c.args.self.now ≡ c.self.inside.few ++ all_in c.self.inside.spread.items = search rules in
    on_ok c.put.result (λ h q.
    accumulated_meets c.put.new.few c.put.new.lists.items q
    ∙ h q
    ∙ ap (λ (b : Bool). b || not (are_apart c.args.part.now q)) (
    ap (λ (b : Bool). meets_some c.self.inside.few q || b) (c.in_ok-make_lists.ensures.meets q)
    ∙ sym (accumulated_meets c.self.inside.few c.self.inside.spread.items q)
    ∙ sym (ap (λ (ps : List (List PartSelector)). meets_some ps q) view)
    )) c.put.ensures.meets
