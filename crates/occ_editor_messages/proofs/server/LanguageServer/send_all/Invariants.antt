use Rattle.std.proofs.Common.{◌≡◌, take}
use Rattle.occ_editor_messages.proofs.server.LanguageServer.send_all.Given as goal
use Rattle.occ_editor_messages.specs.inside.Sending.{AreSent}

abbrev pub invariant-loop-told : goal.invariant-loop-told
invariant-loop-told g l = (l.self.editor ≡ l.fn.self.editor) × (l.self.phase ≡ l.fn.self.phase) × AreSent (take l.told-index l.all) l.fn.self.sending.bytes.items l.self.sending.bytes.items
