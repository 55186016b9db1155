use Rattle.std.proofs.Common.{rules, ◌≡◌, ◌∙◌, ◌++◌, ◌||◌, Bool, false, List, ap, subst, sym}
use Rattle.occ_usage_parts.specs.Keeping.{meets_some}
use Rattle.occ_types.specs.declared.interface.PartSelector.{PartSelector}
use Rattle.occ_usage_conflicts.specs.inside.Spreading.{IsSpread, all_in, meets_in}
use Rattle.occ_usage_conflicts.proofs.Spreading.{accumulated_meets}
use Rattle.occ_usage_conflicts.proofs.accumulated.Accumulated.meets.Goals as goal

pub returns-else-meets : goal.returns-else-meets
returns-else-meets c =
    let q = c.args.part.now in
    let few : meets_some c.self.inside.few q ≡ false = search rules in
    let same : c.as_slice.result.now ≡ c.self.inside.spread.items = search rules in
    let view : c.args.self.now ≡ c.self.inside.few ++ all_in c.self.inside.spread.items = search rules in
    let spread : IsSpread c.as_slice.result.now = subst (λ (ls : List (List (List PartSelector))). IsSpread ls) (sym same) c.self.invariant in
    c.meets_spread.ensures spread
    ∙ ap (λ (ls : List (List (List PartSelector))). meets_in ls q) same
    ∙ sym (
    ap (λ (ps : List (List PartSelector)). meets_some ps q) view
    ∙ accumulated_meets c.self.inside.few c.self.inside.spread.items q
    ∙ ap (λ (b : Bool). b || meets_in c.self.inside.spread.items q) few
    )
