use Rattle.std.proofs.Common.{◌∙◌, ap, subst, sym, length, List, [], ◌∷◌, ◌++◌}
use Rattle.occ_usage_values.specs.declared.uses.Use.{Use}
use Rattle.occ_usage_conflicts.specs.Components.{joined}
use Rattle.occ_usage_conflicts.specs.declared.accumulate.RootUses.{RootUses}
use Rattle.occ_usage_conflicts.specs.inside.Accumulating.{IsTable}
use Rattle.occ_usage_conflicts.proofs.Accumulation.{joined_last, judged_component, judged_length, on_ok}
use Rattle.occ_usage_conflicts.proofs.accumulate.step.Goals as goal

pub returns : goal.returns
returns c = on_ok c.add.result (λ p. (
  p.0 ∙ ap (λ (t : List RootUses). length t) c.judge.ensures ∙ judged_length c.args.component.now c.args.table.now.items,
  λ seen h. subst (λ (us : List Use). IsTable (seen ++ c.args.component.now ∷ []) us c.add.new.table.items) (sym (joined_last seen c.args.component.now))
      (p.1 (seen ++ c.args.component.now ∷ []) (joined seen)
      (subst (λ (t : List RootUses). IsTable (seen ++ c.args.component.now ∷ []) (joined seen) t) (sym c.judge.ensures)
      (judged_component c.args.component.now c.args.table.now.items seen h))),
)) c.add.ensures
