use Rattle.std.proofs.Common.{◌≡◌, ◌∙◌, ◌++◌, ◌∷◌, ◌+◌, ℕ, List, [], Some, ap, arith, cond, refl, rules, sym, take, true}
use Rattle.std.proofs.lemmas.List.{take_all, take_more}
use Rattle.std.proofs.lemmas.Option.{slice_get_read}
use Rattle.std.specs.BTreeMap.{get}
use Rattle.std.specs.List.{slice_get}
use Rattle.std.specs.Str.{bytes_eq}
use Rattle.occ_board.specs.Machine.{State}
use Rattle.occ_editor.proofs.Brought.{kept_next, put_end, put_next, was_there}
use Rattle.occ_editor.proofs.bringing.put_all.Goals as goal
use Rattle.occ_editor.proofs.bringing.put_all.Goals.{else-not-is_same, then-not-is_same+in_ok-share+in_ok-put_one}
use Rattle.occ_editor.specs.Placing.{source_on}
use Rattle.occ_editor.specs.inside.Bringing.{has_same}
use Rattle.occ_files.specs.declared.gathering.Text.{Text}
use Rattle.occ_forms.specs.Prepared.{Prepared}
use Rattle.occ_project.specs.Reads.{name_cmp}

pub loop-text-preserved : goal.loop-text-preserved
loop-text-preserved c = λ kept name.
    let texts : List Text = c.args.texts.now in
    let text : Text = c.text-item.result in
    let i : ℕ = c.loop-text.text-index in
    let next : take (i + 1) texts ≡ take i texts ++ text ∷ [] = take_more texts i text c.loop-text-test.true ∙ ap (λ (t : Text). take i texts ++ t ∷ []) (sym c.text-item.is) in
    let at : slice_get texts i ≡ Some text = slice_get_read texts _ _ text refl c.loop-text-test.true c.text-item.is in
    elim c.if-not-is_same.branch [
      | then-not-is_same+in_ok-share+in_ok-put_one w ↦
          ap (λ (s : State). source_on s name) w.board-is
          ∙ put_next texts i text (source_on c.args.board.now) (source_on c.loop-text.board) (source_on w.put_one.new.board) c.requires.apart at next (c.loop-text.invariant kept)
          (λ n. w.in_ok-put_one.ensures n ∙ ap (λ (s : Prepared). cond (bytes_eq text.name n) (Some s) (source_on c.loop-text.board n)) w.in_ok-share.ensures) name
      | else-not-is_same w ↦
          let same : has_same (get name_cmp c.args.before.now text.name) text.source ≡ true = search rules in
          ap (λ (s : State). source_on s name) w.board-is
          ∙ kept_next texts i text (source_on c.args.board.now) (source_on c.loop-text.board) c.requires.apart at next
          (was_there texts i text (source_on c.args.board.now) (get name_cmp c.args.before.now) at kept (c.requires.shared i text at same)) (c.loop-text.invariant kept) name
    ]

pub returns : goal.returns
returns c = λ kept name.
    c.loop-text.invariant kept name
    ∙ put_end c.args.texts.now (source_on c.args.board.now) (get name_cmp c.args.before.now) c.loop-text.text-index (take_all c.loop-text.text-index c.args.texts.now (omega (arith, c.loop-text-test.false))) kept name
