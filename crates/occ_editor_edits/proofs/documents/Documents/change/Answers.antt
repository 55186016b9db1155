use Rattle.std.proofs.Common.{◌∙◌, ap, sym, List, ℕ}
use Rattle.occ_editor_edits.proofs.Noted.{is_changed}
use Rattle.occ_editor_edits.specs.Documents.{text_in}
use Rattle.occ_editor_edits.proofs.documents.Documents.change.Goals as goal

pub returns-in_ok-put : goal.returns-in_ok-put
returns-in_ok-put c = is_changed _ _ c.args.path c.in_ok-text.text c.args.changes.now c.in-Some.text.now _ (ap (λ (p : List ℕ). text_in c.args.self.now.all.items p) (sym c.as_str.ensures.value) ∙ sym c.in-Some.ensures) c.in_ok-text.ensures c.in_ok-put.ensures
