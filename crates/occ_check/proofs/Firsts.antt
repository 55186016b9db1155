-- Diagnostics after which no others count.
use Rattle.std.proofs.Common.{◌≡◌, ◌≢◌, List, [], ◌∷◌, None, refl}
use Rattle.occ_base.specs.declared.diag.Diag.{Diag}
use Rattle.occ_check.specs.Language.{following}
use Rattle.occ_check.specs.declared.language.Judgement.{Judgement}

pub first_is_all : (ds : List Diag) (later : Judgement) → ds ≢ [] → following ds later ≡ record { faults = ds; interface = None }
first_is_all [] later h = absurd (h refl)
first_is_all (d ∷ ds) later h = refl
