use Rattle.std.proofs.Common.{◌≡◌, ◌+◌, ◌≤◌, drop, map}
use Rattle.std.specs.String.{string_bytes}
use Rattle.occheck_words.specs.Modes.{inputs}
use Rattle.occheck_words.proofs.words.inputs_among.Given as goal

abbrev pub invariant-loop-script : goal.invariant-loop-script
invariant-loop-script l = (l.count + inputs (map string_bytes (drop l.script-index l.scripts)) ≡ inputs (map string_bytes l.scripts)) × (l.count ≤ l.script-index)
