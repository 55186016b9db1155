use Rattle.std.proofs.Common.{◌∷◌, [], ℕ, List, sym, ap, ◌∙◌}
use Rattle.std.specs.Str.{bytes_eq}
use Rattle.occ_editor_edits.proofs.Heads.{is_read_step, is_head_step}
use Rattle.occ_editor_edits.proofs.reading.read_head.Goals as goal

pub returns-then-ends_head-clause-says : goal.returns-then-ends_head-clause-says
returns-then-ends_head-clause-says g c = is_head_step _ _ _ _ _ _ _ _ c.loop-count.invariant c.in_ok-line.ensures.says c.as_slice.ensures.value (sym c.ends_head.ensures ∙ c.if-ends_head.true) c.in-Some.is

pub loop-count-preserved : goal.loop-count-preserved
loop-count-preserved g c =
    is_read_step _ _ _ _ _ _ _ _ _ c.loop-count.invariant c.in_ok-line.ensures.says (c.in_ok-line.ensures.line c.if-not-ended.false) c.as_slice-in-loop-count.ensures.value
    (ap (λ (t : List ℕ). bytes_eq t (13 ∷ 10 ∷ [])) (sym c.as_slice.ensures.value) ∙ sym c.ends_head.ensures ∙ c.if-ends_head.false) c.told.ensures c.later-size.ensures
