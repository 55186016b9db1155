use Rattle.std.proofs.Common.{◌≡◌, drop}
use Rattle.occ_base.specs.Mixing.{number_of_bytes}
use Rattle.occ_base.proofs.mixing.number_of_bytes.Given as goal

abbrev pub invariant-loop-byte : goal.invariant-loop-byte
invariant-loop-byte l = number_of_bytes l.number (drop l.byte-index l.bytes) ≡ number_of_bytes 0 l.bytes
