-- In which components the uses of a root may stand.
use Rattle.std.specs.Prelude.{ℕ, ◌≡◌, ◌⊎◌, List, Some, slice_get}
use Rattle.occ_usage_conflicts.specs.declared.presence.Presence.{Presence}
use Rattle.occ_usage_conflicts.specs.declared.presence.Presence.TheVariants as presence

-- what is known of a root leaves it open that a use of it stands in this component
abbrev pub MayBeIn : Presence → ℕ → Type 0
MayBeIn stand i = (stand ≡ presence.One i) ⊎ (stand ≡ presence.Several)

-- so it is of the root with this number
abbrev pub IsIn : List Presence → ℕ → ℕ → Type 0
IsIn stands root i = (stand : Presence) × (slice_get stands root ≡ Some stand) × MayBeIn stand i
