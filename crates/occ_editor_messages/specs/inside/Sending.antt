-- What is sent of several files.
use Rattle.std.specs.Prelude.{◌≡◌, ◌++◌, ℕ, List, codes}
use Rattle.std.specs.List.{flat_map}
use Rattle.serde_json.specs.Data.{Data}
use Rattle.occ_editor.specs.declared.editor.Published.{Published}
use Rattle.occ_editor_messages.specs.Sent.{AreTold, note_bytes}

-- a note of each of them was added to the bytes
abbrev pub AreSent : List Published → List ℕ → List ℕ → Type 0
AreSent all before now = (params : List Data) × AreTold all params × (now ≡ before ++ flat_map (note_bytes (codes "textDocument/publishDiagnostics")) params)
