-- How a file name is held: its bytes at the front of 64, and zeros after.
use Rattle.std.specs.Prelude.{ℕ, ◌≡◌, ◌≤◌, ◌-◌, List, take, drop, length, ◌++◌, replicate}
use Rattle.std.proofs.Common.{arith, ap, ◌∙◌, length-take, take-append-drop}
use Rattle.occ_base.specs.FileName.{IsFileName}
use Rattle.occ_base.specs.declared.file_name.FileName.TheInside.{Inside}

-- the bytes of the name
abbrev pub shown : Inside → List ℕ
shown a = take a.len a.bytes

pub record IsPadded (a : Inside) : Type 0 where
  pub len : a.len ≤ 64
  pub whole : length a.bytes ≡ 64
  pub zeros : drop a.len a.bytes ≡ replicate (64 - a.len) 0
  pub named : IsFileName (shown a)

abbrev pub padded : List ℕ → Inside
padded bytes = record { bytes = bytes ++ replicate (64 - length bytes) 0; len = length bytes }

pub padded_back : (a : Inside) → IsPadded a → padded (shown a) ≡ a
padded_back a h =
    let n : length (take a.len a.bytes) ≡ a.len = omega (arith, length-take a.len a.bytes, h.len, h.whole) in
    let b : take a.len a.bytes ++ replicate (64 - length (take a.len a.bytes)) 0 ≡ a.bytes = rw n (rw (← h.zeros) (take-append-drop a.len a.bytes)) in
    ap (λ (x : List ℕ). record { bytes = x; len = length (take a.len a.bytes) }) b ∙ ap (λ (m : ℕ). record { bytes = a.bytes; len = m }) n
