use Rattle.std.proofs.Common.{◌≡◌, map, take}
use Rattle.std.specs.String.{string_bytes}
use Rattle.occheck_words.proofs.words.sessions.Given as goal

abbrev pub invariant-loop-script : goal.invariant-loop-script
invariant-loop-script l = map string_bytes l.names.items ≡ map (λ script. script.now) (take l.script-index l.scripts)
