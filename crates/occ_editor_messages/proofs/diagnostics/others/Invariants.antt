use Rattle.std.proofs.Common.{◌≡◌, map, take}
use Rattle.serde_json.specs.View.{view}
use Rattle.occ_editor_messages.proofs.diagnostics.others.Given as goal
use Rattle.occ_editor_messages.specs.Sent.{other_data}

abbrev pub invariant-loop-other : goal.invariant-loop-other
invariant-loop-other l = map view l.list.items ≡ map (other_data l.uri) (take l.other-index l.message.others.items)
