-- Reserved words by their first letters.
use Rattle.std.proofs.Common.{◌≡◌, ◌≤◌, ◌∷◌, [], ℕ, List, drop, length, refl, arith, get_or}

-- bytes that are there have a first
pub first_and_more : (bytes : List ℕ) → 1 ≤ length bytes → get_or bytes 0 0 ∷ drop 1 bytes ≡ bytes
first_and_more [] h = absurd (omega (arith, h))
first_and_more (b ∷ more) h = refl
