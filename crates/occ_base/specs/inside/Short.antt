-- How few bytes are held: at the front of 14, and zeros after; and a name, whose bytes are these or more.
use Rattle.std.specs.Prelude.{ℕ, ◌≡◌, ◌≤◌, ◌-◌, List, take, drop, length, ◌++◌, replicate}
use Rattle.std.proofs.Common.{arith, ap, ◌∙◌, length-take, take-append-drop}
use Rattle.occ_base.specs.declared.short.Short.TheInside.{Inside}
use Rattle.occ_base.specs.declared.name.Bytes.{Bytes}
use Rattle.occ_base.specs.declared.name.Bytes.TheVariants as b

-- the bytes
abbrev pub shown : Inside → List ℕ
shown a = take a.len a.bytes

pub record IsShort (a : Inside) : Type 0 where
  pub len : a.len ≤ 14
  pub whole : length a.bytes ≡ 14
  pub zeros : drop a.len a.bytes ≡ replicate (14 - a.len) 0

abbrev pub padded : List ℕ → Inside
padded bytes = record { bytes = bytes ++ replicate (14 - length bytes) 0; len = length bytes }

pub padded_back : (a : Inside) → IsShort a → padded (shown a) ≡ a
padded_back a h =
    let n : length (take a.len a.bytes) ≡ a.len = omega (arith, length-take a.len a.bytes, h.len, h.whole) in
    let b : take a.len a.bytes ++ replicate (14 - length (take a.len a.bytes)) 0 ≡ a.bytes = rw n (rw (← h.zeros) (take-append-drop a.len a.bytes)) in
    ap (λ (x : List ℕ). record { bytes = x; len = length (take a.len a.bytes) }) b ∙ ap (λ (m : ℕ). record { bytes = a.bytes; len = m }) n

-- the bytes of a name
abbrev pub bytes_of : Bytes → List ℕ
bytes_of (b.Short bytes) = bytes
bytes_of (b.Long bytes) = bytes
