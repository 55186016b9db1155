-- A number of bytes, which differs for most.
use Rattle.std.specs.Prelude.{ℕ, ◌+◌, ◌*◌, ◌%◌, ◌^◌, List, [], ◌∷◌}

-- of bytes after others, whose number is n
abbrev pub digest_from : ℕ → List ℕ → ℕ
digest_from n [] = n
digest_from n (byte ∷ bytes) = digest_from (((n * 1099511628211) % 2 ^ 64 + byte) % 2 ^ 64) bytes

abbrev pub digest : List ℕ → ℕ
digest bytes = digest_from 0 bytes
