use Rattle.std.proofs.Common.{◌≡◌, ◌++◌, map, take}
use Rattle.serde_json.specs.View.{view}
use Rattle.occ_editor_messages.proofs.diagnostics.diagnostics.Given as goal
use Rattle.occ_editor_messages.specs.Sent.{diagnostic_data, first_data}

abbrev pub invariant-loop-message : goal.invariant-loop-message
invariant-loop-message l = map view l.list.items ≡ first_data l.told.refusal ++ map (diagnostic_data l.uri) (take l.message-index l.told.messages.items)
