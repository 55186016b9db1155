use Rattle.std.proofs.Common.{◌≡◌, ◌++◌, codes, take}
use Rattle.std.specs.List.{flat_map}
use Rattle.std.specs.String.{string_bytes}
use Rattle.occ_editor_messages.proofs.diagnostics.words.Given as goal

abbrev pub invariant-loop-hint : goal.invariant-loop-hint
invariant-loop-hint l = string_bytes l.words ≡ string_bytes l.message.words ++ flat_map (λ hint. codes "\nhelp: " ++ string_bytes hint) (take l.hint-index l.message.hints.items)
