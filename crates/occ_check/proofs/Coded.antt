-- Uses put at their places, the last first.
use Rattle.std.proofs.Common.{◌≡◌, ℕ, List, [], ◌∷◌, ◌++◌, refl, ap}
use Rattle.std.specs.BTreeMap.{insert_entry}
use Rattle.std.specs.Cmp.Lexicographic.{slice_cmp}
use Rattle.std.specs.Ordering.{nat_cmp}
use Rattle.occ_check.specs.Codes.{use_code}
use Rattle.occ_check.specs.FormalUses.{coded}
use Rattle.occ_types.specs.declared.interface.FormalUse.{FormalUse}

pub coded_last : (front : List FormalUse) (last : FormalUse) (there : List (List ℕ × FormalUse))
    → coded (front ++ last ∷ []) there ≡ coded front (insert_entry (slice_cmp nat_cmp) there (use_code last) last)
coded_last [] last there = refl
coded_last (u ∷ front) last there = ap (λ (xs : List (List ℕ × FormalUse)). insert_entry (slice_cmp nat_cmp) xs (use_code u) u) (coded_last front last there)
