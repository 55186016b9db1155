use Rattle.std.proofs.Common.{◌≡◌, subst, take, List}
use Rattle.std.proofs.lemmas.List.{take_all}
use Rattle.occ_usage_values.specs.declared.uses.Use.{Use}
use Rattle.occ_usage_conflicts.specs.Components.{joined}
use Rattle.occ_usage_conflicts.specs.inside.Accumulating.{IsTable}
use Rattle.occ_usage_conflicts.proofs.accumulate.root_uses.Goals as goal

pub returns : goal.returns
returns c =
    let all : take c.loop-component.component-index c.args.components.now ≡ c.args.components.now
    = take_all c.loop-component.component-index c.args.components.now c.loop-component-test.false in
    (c.loop-component.invariant.0, subst (λ (us : List (List Use)). IsTable us (joined us) c.loop-component.table.items) all c.loop-component.invariant.1)
