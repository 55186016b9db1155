use Rattle.std.proofs.Common.{◌≡◌, ◌++◌, ◌∷◌, [], List, codes, ℕ}
use Rattle.serde_json.specs.Data.{Data}
use Rattle.serde_json.specs.View.{view}
use Rattle.occ_editor.specs.declared.editor.Published.{Published}
use Rattle.occ_editor_messages.proofs.Sent.{bytes_next, told_next, told_plain}
use Rattle.occ_editor_messages.proofs.server.LanguageServer.send_all.Goals as goal
use Rattle.occ_editor_messages.specs.Sent.{IsTold, note_bytes}

pub loop-told-preserved : goal.loop-told-preserved
loop-told-preserved g c =
    let note : Data → List ℕ = note_bytes (codes "textDocument/publishDiagnostics") in
    let so_far = c.loop-told.invariant.2 in
    let all : List Published = c.args.all.now in
    let p : Published = c.told-item.result in
    let d : Data = view c.in_ok-params.params in
    let told : IsTold p d = c.in_ok-params.ensures in
    let more : c.note.new.self.bytes.items ≡ c.loop-told.self.sending.bytes.items ++ note d = c.in_ok-note.ensures (told_plain p d told) in (
      c.loop-told.invariant.0,
      c.loop-told.invariant.1,
      (so_far.0 ++ d ∷ [], told_next all c.loop-told.told-index p so_far.0 d c.loop-told-test.true c.told-item.is so_far.1 told, bytes_next note so_far.0 d c.args.self.now.sending.bytes.items c.loop-told.self.sending.bytes.items c.note.new.self.bytes.items so_far.2 more),
    )
