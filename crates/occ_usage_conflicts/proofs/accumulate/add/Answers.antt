use Rattle.std.proofs.Common.{◌≡◌, ◌∙◌, ◌+◌, ap, subst, sym, append_assoc, take, List, [], ◌∷◌, ◌++◌}
use Rattle.std.proofs.lemmas.List.{take_all, take_more}
use Rattle.occ_usage_values.specs.declared.uses.Use.{Use}
use Rattle.occ_usage_conflicts.specs.inside.Accumulating.{IsTable}
use Rattle.occ_usage_conflicts.proofs.accumulate.add.Goals as goal

pub loop-one-preserved : goal.loop-one-preserved
loop-one-preserved c =
    let more : take c.loop-one.one-index c.args.component.now ++ c.one-item.result ∷ [] ≡ take (c.loop-one.one-index + 1) c.args.component.now
    = ap (λ (u : Use). take c.loop-one.one-index c.args.component.now ++ u ∷ []) c.one-item.is ∙ sym (take_more c.args.component.now c.loop-one.one-index c.one-item.result c.loop-one-test.true) in (
      c.in_ok-add_use.ensures.0 ∙ c.loop-one.invariant.0,
      λ reported accumulated h. subst (λ (us : List Use). IsTable reported us c.add_use.new.table.items)
          (append_assoc accumulated (take c.loop-one.one-index c.args.component.now) (c.one-item.result ∷ []) ∙ ap (λ (us : List Use). accumulated ++ us) more)
          (c.in_ok-add_use.ensures.1 reported (accumulated ++ take c.loop-one.one-index c.args.component.now) (c.loop-one.invariant.1 reported accumulated h)),
    )

pub returns : goal.returns
returns c =
    let all : take c.loop-one.one-index c.args.component.now ≡ c.args.component.now = take_all c.loop-one.one-index c.args.component.now c.loop-one-test.false in (
      c.loop-one.invariant.0,
      λ reported accumulated h. subst (λ (us : List Use). IsTable reported (accumulated ++ us) c.loop-one.table.items) all (c.loop-one.invariant.1 reported accumulated h),
    )
