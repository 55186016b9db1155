use Rattle.std.proofs.Common.{◌≡◌, ◌∙◌, ◌++◌, ◌∷◌, ◌+◌, Bool, List, [], Some, ap, cond, refl, rules, sym, take}
use Rattle.std.proofs.lemmas.List.{take_more}
use Rattle.std.proofs.lemmas.Map.Text.{is_eq-slice_cmp}
use Rattle.std.proofs.lemmas.Option.{slice_get_read}
use Rattle.std.specs.BTreeMap.{Updates, get}
use Rattle.std.specs.Str.{bytes_eq}
use Rattle.occ_editor.proofs.Brought.{by_name_next}
use Rattle.occ_editor.proofs.bringing.by_name.Goals as goal
use Rattle.occ_files.specs.declared.gathering.Text.{Text}
use Rattle.occ_forms.specs.Prepared.{Prepared}
use Rattle.occ_project.specs.Reads.{name_cmp}

pub loop-text-preserved : goal.loop-text-preserved
loop-text-preserved c = λ apart.
    let texts : List Text = c.args.texts.now in
    let text : Text = c.text-item.result in
    let next : take (c.loop-text.text-index + 1) texts ≡ take c.loop-text.text-index texts ++ text ∷ [] = take_more texts c.loop-text.text-index text c.loop-text-test.true ∙ ap (λ (t : Text). take c.loop-text.text-index texts ++ t ∷ []) (sym c.text-item.is) in
    let updates : Updates name_cmp c.loop-text.sources c.insert.new.self text.name (Some c.in_ok-share.field-0) = search rules in
    by_name_next texts c.loop-text.text-index text (get name_cmp c.loop-text.sources) (get name_cmp c.insert.new.self) apart
    (slice_get_read texts _ _ text refl c.loop-text-test.true c.text-item.is) next (c.loop-text.invariant apart)
    (λ name.
    updates.0 name
    ∙ ap (λ (b : Bool). cond b (Some c.in_ok-share.field-0) (get name_cmp c.loop-text.sources name)) (is_eq-slice_cmp text.name name)
    ∙ ap (λ (s : Prepared). cond (bytes_eq text.name name) (Some s) (get name_cmp c.loop-text.sources name)) c.in_ok-share.ensures)
