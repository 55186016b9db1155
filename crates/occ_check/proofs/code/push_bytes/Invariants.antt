use Rattle.std.proofs.Common.{◌≡◌, ◌++◌, drop}
use Rattle.occ_check.proofs.code.push_bytes.Given as goal

abbrev pub invariant-loop-byte : goal.invariant-loop-byte
invariant-loop-byte l = l.numbers ++ drop l.byte-index l.bytes ≡ l.initial.numbers ++ l.bytes
