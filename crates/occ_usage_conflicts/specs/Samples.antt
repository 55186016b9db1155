-- Uses for worked rows.
use Rattle.std.specs.Prelude.{ℕ, ℤ, List, [], ◌∷◌, Option, codes}
use Rattle.occ_usage_values.specs.declared.uses.Use.{Use}
use Rattle.occ_usage_parts.specs.Selecting.{subscript}
use Rattle.occ_types.specs.declared.interface.PartSelector.TheVariants as s
use Rattle.occ_types.specs.declared.interface.PartSelector.{PartSelector}
use Rattle.occ_types.specs.declared.interface.UseKind.{UseKind}

-- a use of a part of the root, on the third line of a file
abbrev pub use_of : UseKind → ℕ → List PartSelector → Use
use_of k root xs = record { part = record { root = root; selectors = xs }; kind = k; line = record { file = codes "a.occ"; line = 3 }; chain = [] }

-- one component with this use alone
abbrev pub alone : UseKind → ℕ → List PartSelector → List Use
alone k root xs = use_of k root xs ∷ []

abbrev pub at : Option ℤ → List PartSelector
at k = s.Interval (subscript k) ∷ []
