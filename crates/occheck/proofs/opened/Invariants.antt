use Rattle.std.proofs.Common.{◌≡◌, false, length}
use Rattle.std.specs.List.{list_any}
use Rattle.occheck.proofs.opened.Given as goal

abbrev pub invariant-loop-script : goal.invariant-loop-script
invariant-loop-script l = (length l.readers.items ≡ l.script-index) × (list_any (λ reader. reader.failed) l.readers.items ≡ false)
