use Rattle.std.proofs.Common.{◌≡◌, ◌∙◌, List, ℕ, ap, sym}
use Rattle.occ_board.specs.declared.entry.Edit.TheVariants as an_edit
use Rattle.occ_forms.specs.Prepared.{Prepared}
use Rattle.occheck_script.specs.Machine.{text_read}
use Rattle.occheck_sessions.proofs.matching.is_changed.Goals as goal

pub returns-then-is_named : goal.returns-then-is_named
returns-then-is_named c = λ read spells same.
    let file : c.in-Changed.file ≡ c.args.name.now = c.is_named.ensures c.if-is_named.true in
    let source : c.in-Changed.source ≡ text_read read c.args.text.now = sym c.get.ensures ∙ c.is_text.ensures read spells same in
    c.in-Changed.is ∙ ap (λ (x : List ℕ). an_edit.Changed x c.in-Changed.source) file ∙ ap (λ (x : Prepared). an_edit.Changed c.args.name.now x) source
