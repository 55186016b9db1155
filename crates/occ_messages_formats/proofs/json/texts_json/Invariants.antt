use Rattle.std.proofs.Common.{◌≡◌, map, take}
use Rattle.serde_json.specs.View.{view}
use Rattle.occ_messages_formats.specs.Written.{text_data}
use Rattle.occ_messages_formats.proofs.json.texts_json.Given as goal

abbrev pub invariant-loop-text : goal.invariant-loop-text
invariant-loop-text l = map view l.list.items ≡ map text_data (take l.text-index l.texts)
