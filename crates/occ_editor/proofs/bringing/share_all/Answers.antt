use Rattle.std.proofs.Common.{◌≡◌, ◌∙◌, ◌++◌, ◌+◌, ◌<◌, ℕ, List, Some, ap, arith, drop, map, length, rules, suc, take}
use Rattle.std.specs.BTreeMap.{get}
use Rattle.std.specs.List.{slice_get}
use Rattle.std.specs.Prelude.{slice_set}
use Rattle.occ_editor.proofs.Brought.{shared_next, shared_there, text_within}
use Rattle.occ_editor.proofs.bringing.share_all.Goals as goal
use Rattle.occ_editor.specs.inside.Bringing.{shared_by}
use Rattle.occ_files.specs.declared.gathering.Text.{Text}
use Rattle.occ_project.specs.Reads.{name_cmp}

pub loop-place-preserved : goal.loop-place-preserved
loop-place-preserved c =
    let f : Text → Text = shared_by (get name_cmp c.args.before.now) in
    let xs : List Text = c.args.texts.items in
    let i : ℕ = c.loop-place.place in
    let less : i < length xs = search rules in
    let x = text_within xs i less in
    let there : slice_get c.loop-place.texts.items i ≡ Some x.0 = ap (λ (ts : List Text). slice_get ts i) c.loop-place.invariant ∙ shared_there f xs i x.0 x.1 in
    c.in_ok-share_at.ensures x.0 there
    ∙ ap (λ (ts : List Text). slice_set ts i (f x.0)) c.loop-place.invariant
    ∙ shared_next f xs i x.0 x.1
    ∙ ap (λ (m : ℕ). map f (take m xs) ++ drop m xs) (let k : suc i ≡ i + 1 = omega arith in k)
