use Rattle.std.proofs.Common.{◌≡◌, ◌∙◌, ◌∷◌, ◌+◌, List, ap, drop, false, length, refl, rules, subst, sym, ℕ}
use Rattle.std.proofs.lemmas.List.{drop_more}
use Rattle.std.specs.List.{Contains}
use Rattle.occ_base.specs.declared.diag.Diag.{Diag}
use Rattle.occ_editor.proofs.Shown.{grows_back, grows_both, next_in, past_none}
use Rattle.occ_editor.proofs.room.Room.add_paths.Goals as goal
use Rattle.occ_editor.specs.inside.Shown.{IsIn}
use Rattle.occ_files.specs.declared.gathering.Text.{Text}

pub loop-diag-preserved : goal.loop-diag-preserved
loop-diag-preserved c =
    let texts : List Text = c.args.self.now.texts.items in
    let diags : List Diag = c.args.diags.now in
    let others : List Diag = c.args.others.now in
    let i : ℕ = c.loop-diag.diag-index in
    let d : Diag = c.diag-item.result in
    let next : drop i diags ≡ d ∷ drop (i + 1) diags = drop_more diags i d c.loop-diag-test.true ∙ ap (λ (x : Diag). x ∷ drop (i + 1) diags) (sym c.diag-item.is) in
    let grows = c.in_ok-last.ensures.grows in (
      grows_both c.args.paths.now c.loop-diag.paths c.add_missing.new.paths c.loop-diag.invariant.0 grows,
      c.in_ok-last.ensures.last,
      λ apart path none later.
          c.loop-diag.invariant.2 apart path (grows_back c.loop-diag.paths c.add_missing.new.paths path grows none)
          (subst (λ (ds : List Diag). (x : Diag) → Contains ds x → IsIn texts path x → Contains others x) (sym next) (next_in texts path others d (drop (i + 1) diags) (c.in_ok-last.ensures.added apart path none) later)),
    )

pub returns-clause-added : goal.returns-clause-added
returns-clause-added c = λ apart path none diag. c.loop-diag.invariant.2 apart path none (past_none c.args.self.now.texts.items path c.args.others.now c.args.diags.now c.loop-diag.diag-index (search rules)) diag
