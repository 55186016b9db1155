-- Names with different numbers are different.
use Rattle.std.proofs.Common.{◌≡◌, ◌≢◌, List, ℕ, Bool, true, false, refl, ap, bytes_eq}
use Rattle.std.proofs.lemmas.Slice.Eq.{bytes_eq-Decides}
use Rattle.occ_types.specs.inside.Digests.{digest}

pub told_apart : (xs ys : List ℕ) → digest xs ≢ digest ys → bytes_eq xs ys ≡ false
told_apart xs ys h = by (bytes_eq xs ys) refl where
  by : (b : Bool) → bytes_eq xs ys ≡ b → b ≡ false
  by false e = refl
  by true e = absurd (h (ap digest ((bytes_eq-Decides xs ys).0 e)))

pub ruleset digest_rules = (told_apart)
