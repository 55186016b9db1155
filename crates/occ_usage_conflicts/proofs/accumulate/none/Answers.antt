use Rattle.std.proofs.Common.{rules, ◌≡◌, ◌∙◌, ◌+◌, ap, subst, sym, length, List, [], ◌∷◌, ◌++◌}
use Rattle.std.proofs.lemmas.List.{length-append}
use Rattle.occ_usage_conflicts.specs.declared.accumulate.RootUses.{RootUses}
use Rattle.occ_usage_conflicts.specs.inside.Accumulating.{IsTable}
use Rattle.occ_usage_conflicts.proofs.Accumulation.{unused_more}
use Rattle.occ_usage_conflicts.proofs.accumulate.none.Goals as goal

pub loop-made-preserved : goal.loop-made-preserved
loop-made-preserved c =
    let more : c.push.new.self.items ≡ c.loop-made.table.items ++ c.none.result ∷ [] = search rules in (
      ap (λ (t : List RootUses). length t) more ∙ length-append c.loop-made.table.items (c.none.result ∷ []) ∙ ap (λ (n : _). n + 1) c.loop-made.invariant.0,
      subst (λ (t : List RootUses). IsTable [] [] t) (sym more) (unused_more c.loop-made.table.items c.none.result c.none.ensures c.loop-made.invariant.1),
    )
