-- The order of two names, byte by byte.
use Rattle.std.proofs.Common.{◌≡◌, ◌<◌, ℕ, zero, suc, List, [], ◌∷◌, length, drop, refl, arith}
use Rattle.std.specs.Cmp.Lexicographic.{slice_cmp}
use Rattle.std.specs.Ordering.{nat_cmp}
use Rattle.std.specs.declared.cmp.Ordering.TheVariants.{Greater}

-- bytes that are left stand after none
pub longer : (xs rest : List ℕ) (i : ℕ) → i < length xs → length rest < 1 → slice_cmp nat_cmp (drop i xs) rest ≡ Greater
longer [] rest i h e = absurd (omega (arith, h))
longer (x ∷ xs) [] zero h e = refl
longer (x ∷ xs) (r ∷ rest) zero h e = absurd (omega (arith, e))
longer (x ∷ xs) rest (suc i) h e = longer xs rest i (omega (arith, h)) e
