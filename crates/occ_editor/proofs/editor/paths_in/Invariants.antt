use Rattle.std.proofs.Common.{◌≡◌, ◌++◌, drop, map}
use Rattle.std.specs.String.{string_bytes}
use Rattle.occ_editor.proofs.editor.paths_in.Given as goal
use Rattle.occ_editor.specs.inside.Placed.{wanted}

abbrev pub invariant-loop-document : goal.invariant-loop-document
invariant-loop-document l = map string_bytes l.paths.items ++ wanted (drop l.document-index l.documents.all.items) l.room ≡ wanted l.documents.all.items l.room
