-- A use of a formal written as numbers, each in its own way: by them uses have an order.
use Rattle.std.specs.Prelude.{ℕ, ℤ, pos, negsuc, List, [], ◌∷◌, ◌++◌, length}
use Rattle.occ_types.specs.declared.interface.FormalUse.{FormalUse}
use Rattle.occ_types.specs.declared.interface.Mark.{Mark}
use Rattle.occ_types.specs.declared.interface.Mark.TheVariants as mark
use Rattle.occ_types.specs.declared.interface.PartSelector.{PartSelector}
use Rattle.occ_types.specs.declared.interface.PartSelector.TheVariants as s
use Rattle.occ_types.specs.declared.interface.Places.{Places}
use Rattle.occ_types.specs.declared.interface.Places.TheVariants as places
use Rattle.occ_types.specs.declared.interface.UseKind.{UseKind}
use Rattle.occ_types.specs.declared.interface.UseKind.TheVariants as kind

abbrev pub kind_code : UseKind → ℕ
kind_code kind.Read = 0
kind_code kind.Write = 1
kind_code kind.Input = 2
kind_code kind.Output = 3

abbrev pub mark_code : Mark → ℕ
mark_code mark.Sure = 0
mark_code mark.Unsure = 1

-- -1 is 0 below 0
abbrev pub number_code : ℤ → List ℕ
number_code (pos n) = 0 ∷ n ∷ []
number_code (negsuc n) = 1 ∷ n ∷ []

abbrev pub places_code : Places → List ℕ
places_code places.None = 0 ∷ []
places_code places.All = 1 ∷ []
places_code (places.From b) = 2 ∷ number_code b
places_code (places.Run b more) = 3 ∷ (number_code b ++ more ∷ [])

-- a name with its length, so that what stands after it is distinguished from it
abbrev pub selector_code : PartSelector → List ℕ
selector_code (s.Field name) = 0 ∷ length name ∷ name
selector_code (s.Interval i) = 1 ∷ mark_code i.mark ∷ places_code i.places

abbrev pub selectors_code : List PartSelector → List ℕ
selectors_code [] = []
selectors_code (x ∷ xs) = selector_code x ++ selectors_code xs

abbrev pub use_code : FormalUse → List ℕ
use_code u = u.formal ∷ kind_code u.kind ∷ selectors_code u.selectors
