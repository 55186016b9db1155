-- What follows for bytes that are a file name.
use Rattle.std.proofs.Common.{◌≡◌, ◌≤◌, ℕ, List, length, Bool, true, false, Option, Some, None, cond, ◌&&◌, refl}
use Rattle.std.proofs.lemmas.Bool.{leb-true}
use Rattle.occ_base.specs.FileName.{IsFileName, has_length}
use Rattle.occ_base.specs.declared.file_name.NameFault.{NameFault}

passed : (b : Bool) (x : Option NameFault) (f : NameFault) → cond b x (Some f) ≡ None → b ≡ true
passed true x f h = refl
passed false x f h = absurd cc

second : (a b : Bool) → (a && b) ≡ true → b ≡ true
second true b h = h
second false b h = absurd cc

-- a file name has at most 64 bytes
pub is_short : (bytes : List ℕ) → IsFileName bytes → length bytes ≤ 64
is_short bytes h = leb-true (length bytes) 64 (second _ _ (passed (has_length bytes) _ _ h))
