-- Bytes at the front of zeros.
use Rattle.std.proofs.Common.{◌≡◌, ◌≤◌, ◌-◌, ℕ, List, ◌++◌, length, drop, replicate, arith, ap, sym, subst, ◌∙◌}
use Rattle.std.proofs.lemmas.List.{drop-replicate, drop_at, length-append, length-replicate, take_at}
use Rattle.occ_base.specs.FileName.{IsFileName}
use Rattle.occ_base.specs.Padded.{IsPadded}

-- a file name in front, and the zeros that are left
pub filled : (bytes front back : List ℕ) → front ≡ bytes → back ≡ drop (length bytes) (replicate 64 0) → length bytes ≤ 64 → IsFileName bytes → IsPadded record { bytes = front ++ back; len = length bytes }
filled bytes front back f b s named =
    let n : length front ≡ length bytes = ap length f in
    let z : back ≡ replicate (64 - length bytes) 0 = b ∙ drop-replicate (length bytes) 64 0 in
    record {
      len = s;
      whole = omega (arith, length-append front back, n, ap length z ∙ length-replicate (64 - length bytes) 0);
      zeros = drop_at front back (length bytes) n ∙ z;
      named = subst IsFileName (sym (take_at front back (length bytes) n ∙ f)) named;
    }
