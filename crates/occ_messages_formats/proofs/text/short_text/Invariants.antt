use Rattle.std.proofs.Common.{◌≡◌, take}
use Rattle.std.specs.List.{flat_map}
use Rattle.std.specs.String.{string_bytes}
use Rattle.occ_messages_formats.specs.Written.{short_line}
use Rattle.occ_messages_formats.proofs.text.short_text.Given as goal

abbrev pub invariant-loop-message : goal.invariant-loop-message
invariant-loop-message l = string_bytes l.text ≡ flat_map short_line (take l.message-index l.messages)
