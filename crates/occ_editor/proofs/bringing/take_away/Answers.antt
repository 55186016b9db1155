use Rattle.std.proofs.Common.{◌≡◌, ◌∙◌, ◌++◌, ◌∷◌, ◌+◌, ℕ, List, [], ap, arith, false, is_some, rules, sym, take, true}
use Rattle.std.proofs.lemmas.List.{take_all, take_more}
use Rattle.std.specs.BTreeMap.{get}
use Rattle.occ_board.specs.Machine.{State}
use Rattle.occ_editor.proofs.Brought.{left_all, left_next, taken_next}
use Rattle.occ_editor.proofs.bringing.take_away.Goals as goal
use Rattle.occ_editor.proofs.bringing.take_away.Goals.{else-not-contains_key, then-not-contains_key+in_ok-take_one}
use Rattle.occ_editor.specs.Placing.{source_on}
use Rattle.occ_files.specs.declared.gathering.Text.{Text}
use Rattle.occ_project.specs.Reads.{name_cmp}

pub loop-old-preserved : goal.loop-old-preserved
loop-old-preserved c = λ has name.
    let olds : List Text = c.args.olds.now in
    let old : Text = c.old-item.result in
    let i : ℕ = c.loop-old.old-index in
    let next : take (i + 1) olds ≡ take i olds ++ old ∷ [] = take_more olds i old c.loop-old-test.true ∙ ap (λ (t : Text). take i olds ++ t ∷ []) (sym c.old-item.is) in
    elim c.if-not-contains_key.branch [
      | then-not-contains_key+in_ok-take_one w ↦
          let none : is_some (get name_cmp c.args.news.now old.name) ≡ false = search rules in
          ap (λ (s : State). source_on s name) w.board-is
          ∙ taken_next olds i old (get name_cmp c.args.news.now) (source_on c.loop-old.board) (source_on w.take_one.new.board) next none (c.loop-old.invariant has) w.in_ok-take_one.ensures name
      | else-not-contains_key w ↦
          let there : is_some (get name_cmp c.args.news.now old.name) ≡ true = search rules in
          ap (λ (s : State). source_on s name) w.board-is ∙ left_next olds i old (get name_cmp c.args.news.now) (source_on c.loop-old.board) next there (c.loop-old.invariant has) name
    ]

pub returns : goal.returns
returns c = λ has name.
    c.loop-old.invariant has name
    ∙ left_all c.args.olds.now (get name_cmp c.args.news.now) c.loop-old.old-index (take_all c.loop-old.old-index c.args.olds.now (omega (arith, c.loop-old-test.false))) name
