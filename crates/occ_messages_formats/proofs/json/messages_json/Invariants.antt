use Rattle.std.proofs.Common.{◌≡◌, map, take}
use Rattle.serde_json.specs.View.{view}
use Rattle.occ_messages_formats.specs.Written.{message_data}
use Rattle.occ_messages_formats.proofs.json.messages_json.Given as goal

abbrev pub invariant-loop-message : goal.invariant-loop-message
invariant-loop-message l = map view l.list.items ≡ map message_data (take l.message-index l.messages)
