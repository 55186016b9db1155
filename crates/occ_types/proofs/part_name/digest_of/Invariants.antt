use Rattle.std.proofs.Common.{◌≡◌, drop}
use Rattle.occ_types.specs.inside.Digests.{digest, digest_from}
use Rattle.occ_types.proofs.part_name.digest_of.Given as goal

abbrev pub invariant-loop-byte : goal.invariant-loop-byte
invariant-loop-byte l = digest_from l.digest (drop l.byte-index l.bytes) ≡ digest l.bytes
