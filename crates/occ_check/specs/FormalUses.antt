-- What a body does with its formals, as those see it that know the body by its interface alone: single parts and what is done with
-- them, without lines, in the order of their codes, each once.
use Rattle.std.specs.Prelude.{ℕ, ◌-◌, nat_lt, nat_le, ◌&&◌, List, [], ◌∷◌, ◌++◌, if◌then◌else◌}
use Rattle.std.specs.BTreeMap.{insert_entry}
use Rattle.std.specs.Cmp.Lexicographic.{slice_cmp}
use Rattle.std.specs.Map.{values_of}
use Rattle.std.specs.Ordering.{nat_cmp}
use Rattle.occ_usage_values.specs.declared.uses.Use.{Use}
use Rattle.occ_check.specs.Codes.{use_code}
use Rattle.occ_types.specs.declared.interface.FormalUse.{FormalUse}

-- a use in a body round which n specifications stand, if it is one of a formal; the number of a formal has 32 bits
abbrev pub formal_use : ℕ → Use → List FormalUse
formal_use n u =
    if nat_le n u.part.root && nat_lt (u.part.root - n) 4294967296
    then (record { formal = u.part.root - n; selectors = u.part.selectors; kind = u.kind }) ∷ []
    else []

abbrev pub formal_uses : ℕ → List Use → List FormalUse
formal_uses n [] = []
formal_uses n (u ∷ us) = formal_use n u ++ formal_uses n us

-- with their codes, put one by one at their places among those that are there already; of one code the last that is put there
abbrev pub coded : List FormalUse → List (List ℕ × FormalUse) → List (List ℕ × FormalUse)
coded [] there = there
coded (u ∷ us) there = insert_entry (slice_cmp nat_cmp) (coded us there) (use_code u) u

abbrev pub in_order : List FormalUse → List FormalUse
in_order us = values_of (coded us [])
