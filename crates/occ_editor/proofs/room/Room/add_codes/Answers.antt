use Rattle.std.proofs.Common.{◌≡◌, ◌∙◌, ◌⊎◌, ◌↔◌, ◌∷◌, ◌+◌, List, Some, ap, drop, rules, subst, sym, ℕ}
use Rattle.std.proofs.lemmas.List.{drop_more}
use Rattle.std.specs.List.{Contains}
use Rattle.occ_base.specs.declared.diag.Diag.{Diag}
use Rattle.occ_editor.proofs.Codes.{all_told, past_last}
use Rattle.occ_editor.proofs.Heads.{ended, merged}
use Rattle.occ_editor.proofs.room.Room.add_codes.Goals as goal
use Rattle.occ_editor.specs.Publishing.{text_at}
use Rattle.occ_editor.specs.inside.Codes.{IsOneAt}
use Rattle.occ_files.specs.declared.gathering.Text.{Text}

pub loop-diag-preserved : goal.loop-diag-preserved
loop-diag-preserved c = λ code.
    let told : List Diag = c.args.self.now.told in
    let all : List Diag = c.as_slice-diag-items.result.now in
    let i : ℕ = c.loop-diag.diag-index in
    let d : Diag = c.diag-item.result in
    let text : Text = c.in-Some.text.now in
    let next : drop i told ≡ d ∷ drop (i + 1) told = subst (λ (ds : List Diag). drop i ds ≡ d ∷ drop (i + 1) ds) c.as_slice-diag-items.ensures (drop_more all i d c.loop-diag-test.true ∙ ap (λ (x : Diag). x ∷ drop (i + 1) all) (sym c.diag-item.is)) in
    merged (c.in_ok-add_code.ensures code)
    (subst (λ (ds : List Diag). (Contains c.loop-diag.codes.keys code ⊎ IsOneAt ds text.name c.args.line code) ↔ (Contains c.args.codes.now.keys code ⊎ IsOneAt told text.name c.args.line code)) next (c.loop-diag.invariant code))

pub returns : goal.returns
returns c = λ code.
    let told : List Diag = c.args.self.now.told in
    let texts : List Text = c.args.self.now.texts.items in
    let text : Text = c.in-Some.text.now in
    let is : text_at texts c.args.path.now ≡ Some text = search rules in
    all_told c.loop-diag.codes.keys c.args.codes.now.keys texts told c.args.path.now text c.args.line code is
    (ended (past_last told c.loop-diag.diag-index text.name c.args.line code (search rules)) (c.loop-diag.invariant code))
