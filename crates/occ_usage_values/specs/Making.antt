-- What a call uses, said of one use.
use Rattle.std.specs.Prelude.{ℕ, ◌≡◌, ◌⊎◌, ◌-◌, ◌<◌, ◌≤◌, Option, Some, List, slice_get}
use Rattle.std.specs.List.{Contains}
use Rattle.occ_usage_parts.specs.Selecting.{followed_by}
use Rattle.occ_usage_parts.specs.declared.place.SelectedPart.{SelectedPart}
use Rattle.occ_project.specs.declared.expanded.Location.{Location}
use Rattle.occ_usage_values.specs.Bounds.{Env, body_of}
use Rattle.occ_usage_values.specs.Uses.{at_line}
use Rattle.occ_usage_values.specs.Views.{ActualView, actuals_uses, places_of}
use Rattle.occ_usage_values.specs.declared.uses.Use.{Use}

-- A call of the specification with this number makes w by u, which its body makes: the same of what stands round the body, or
-- of the part of the actual that the same selectors select.
abbrev pub Makes : Location → ℕ → List (Option SelectedPart) → Use → Use → Type 0
Makes line callee places u w =
    ((u.part.root < callee) × (w ≡ at_line u line))
    ⊎ ((callee ≤ u.part.root) × (p : SelectedPart) × (slice_get places (u.part.root - callee) ≡ Some (Some p)) × (w ≡ record { part = followed_by p u.part.selectors; kind = u.kind; line = line; chain = p.chain }))

-- by what is evaluated for its actuals, or by its body
abbrev pub CallUses : ℕ → List ActualView → Env → Location → Use → Type 0
CallUses callee xs env line w =
    Contains (actuals_uses xs env line) w
    ⊎ ((u : Use) × Contains (body_of (slice_get env callee)) u × Makes line callee (places_of xs env) u w)
