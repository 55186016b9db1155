use Rattle.std.proofs.Common.{arith, ◌≡◌, ◌<◌, ℕ, List, [], ◌∷◌, length, refl}
use Rattle.occ_base.specs.Firsts.{first_indices}
use Rattle.occ_project.proofs.expansion.each_once.Goals as goal

alone : (names : List (List ℕ)) → length names < 2 → names ≡ first_indices names
alone [] h = refl
alone (name ∷ []) h = refl
alone (name ∷ other ∷ names) h = absurd (omega (arith, h))

pub returns-then-len-lt2 : goal.returns-then-len-lt2
returns-then-len-lt2 c = alone c.args.names (omega (arith, c.if-len-lt2.true, c.len.ensures))
