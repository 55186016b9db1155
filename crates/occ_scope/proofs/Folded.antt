-- Names with different numbers are different.
use Rattle.std.proofs.Common.{◌≡◌, ◌≢◌, List, ℕ, Bool, true, false, refl, ap, bytes_eq}
use Rattle.std.proofs.lemmas.Slice.Eq.{bytes_eq-Decides}
use Rattle.occ_scope.specs.inside.Folded.{number_for}

pub told_apart : (xs ys : List ℕ) → number_for xs ≢ number_for ys → bytes_eq xs ys ≡ false
told_apart xs ys h = by (bytes_eq xs ys) refl
  where
    by : (b : Bool) → bytes_eq xs ys ≡ b → b ≡ false
    by false e = refl
    by true e = absurd (h (ap number_for ((bytes_eq-Decides xs ys).0 e)))

pub ruleset folded_rules = (told_apart)
