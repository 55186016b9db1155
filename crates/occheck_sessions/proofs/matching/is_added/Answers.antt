use Rattle.std.proofs.Common.{◌≡◌, ◌∙◌, List, ℕ, ap, sym}
use Rattle.occ_board.specs.declared.entry.Edit.TheVariants as an_edit
use Rattle.occ_forms.specs.Prepared.{Prepared}
use Rattle.occheck_script.specs.Machine.{text_read}
use Rattle.occheck_sessions.proofs.matching.is_added.Goals as goal

pub returns-then-is_named : goal.returns-then-is_named
returns-then-is_named c = λ read spells same.
    let file : c.in-Added.file ≡ c.args.name.now = c.is_named.ensures c.if-is_named.true in
    let source : c.in-Added.source ≡ text_read read c.args.text.now = sym c.get.ensures ∙ c.is_text.ensures read spells same in
    c.in-Added.is ∙ ap (λ (x : List ℕ). an_edit.Added x c.in-Added.source) file ∙ ap (λ (x : Prepared). an_edit.Added c.args.name.now x) source
