use Rattle.std.proofs.Common.{rules, ◌≡◌, ◌∙◌, sym, refl}
use Rattle.occ_usage_parts.specs.inside.PlaceSets.{place_at}
use Rattle.occ_usage_parts.proofs.Asking.{endless, runs_from}
use Rattle.occ_usage_parts.proofs.place_set.PlaceSet.has_from.Goals as goal

pub returns-then-is_endless : goal.returns-then-is_endless
returns-then-is_endless c = ((λ t. endless c.args.self.now c.args.first (sym c.is_endless.ensures ∙ c.if-is_endless.true)), (λ m. refl))

pub returns : goal.returns
returns c =
    let e : place_at c.index.result ≡ c.args.first = search rules in
    runs_from c.args.self.now (sym c.is_endless.ensures ∙ c.if-is_endless.false) c.meet_from.result c.index.result c.args.first e c.meet_from.ensures
