use Rattle.std.proofs.Common.{◌≡◌, drop}
use Rattle.occ_editor_edits.specs.Documents.{text_in}
use Rattle.occ_editor_edits.proofs.documents.Documents.text_of.Given as goal

abbrev pub invariant-loop-document : goal.invariant-loop-document
invariant-loop-document l = text_in (drop l.document-index l.self.all.items) l.path ≡ text_in l.self.all.items l.path
