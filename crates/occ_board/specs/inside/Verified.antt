-- Cached outcomes that looked at the present reads of their units, and at the units that these use as they stand at present, each one
-- below with the interface that is cached of it, be that the present one or not. So an edit of a unit leaves its users verified, unless
-- they read its file or units stand otherwise then; an accepted outcome of it does so unless it shows another interface.
use Rattle.std.specs.Prelude.{◌≡◌, ℕ, Bool, true, List, [], Option, Some}
use Rattle.std.specs.Option.{option_and_then}
use Rattle.occ_board.specs.Done.{cached_of}
use Rattle.occ_board.specs.inside.Flagged.{flag_of}
use Rattle.occ_check.specs.Checks.{input_with}
use Rattle.occ_check.specs.Diagnostics.{interface_of}
use Rattle.occ_check.specs.Input.{Input}
use Rattle.occ_check.specs.declared.checked.Checked.{Checked}
use Rattle.occ_project.specs.declared.reads.Read.{Read}
use Rattle.occ_types.specs.declared.interface.Interface.{Interface}

-- what a unit shows by the outcome that is cached of it
abbrev pub shown_of : List Input → List ℕ → Option Interface
shown_of cached v = option_and_then interface_of (cached_of cached v)

-- of what is cached of a unit others look at that alone
abbrev pub cached_check : List Input → List ℕ → Checked
cached_check cached v = record { diags = []; interface = shown_of cached v }

-- what the check of u looks at, if each unit shows what is cached of it
abbrev pub looked : List Read → List Input → List ℕ → Input
looked files cached u = input_with files u (cached_check cached)

-- a flag is set only where the cached outcome of a unit looked at that; it may be unset there too
abbrev pub AreVerified : List Read → List Input → List Bool → Type 0
AreVerified files cached verified = (u : List ℕ) → flag_of files verified u ≡ true → cached_of cached u ≡ Some (looked files cached u)
