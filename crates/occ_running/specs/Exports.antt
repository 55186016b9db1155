-- What a call of another unit's PROC or FUNCTION does, as its interface tells it.
use Rattle.std.specs.Prelude.{◌≡◌, ◌⊎◌, ℤ, pos, ◌+ℤ◌, int_le, true, Option, Some, List, [], ◌∷◌, ◌++◌, slice_get}
use Rattle.occ_types.specs.declared.interface.FormalUse.{FormalUse}
use Rattle.occ_types.specs.declared.interface.PartSelector.{PartSelector}
use Rattle.occ_types.specs.declared.interface.PartSelector.TheVariants as s
use Rattle.occ_types.specs.declared.interface.Places.{Places}
use Rattle.occ_types.specs.declared.interface.Places.TheVariants as places
use Rattle.occ_running.specs.Memory.{At, InCall, IsOneOf, Reaches, Spot, Step, Thread, To}
use Rattle.occ_running.specs.Runs.{Event}
use Rattle.occ_running.specs.Scopes.{Element, Thing}

-- the place is one of these
abbrev pub IsPlace : Places → ℤ → Type 0
IsPlace places.None x = ⊥
IsPlace places.All x = Unit {0}
IsPlace (places.From a) x = int_le a x ≡ true
IsPlace (places.Run a n) x = (int_le a x ≡ true) × (int_le x (a +ℤ pos n) ≡ true)

abbrev pub IsStep : PartSelector → Step → Type 0
IsStep (s.Field m) (To n) = m ≡ n
IsStep (s.Field m) (At x) = ⊥
IsStep (s.Interval i) (To n) = ⊥
IsStep (s.Interval i) (At x) = IsPlace i.places x

-- the steps lead to an element that lies in what is selected
abbrev pub LeadInto : List PartSelector → List Step → Type 0
LeadInto [] steps = Unit {0}
LeadInto (x ∷ xs) [] = ⊥
LeadInto (x ∷ xs) (t ∷ ts) = IsStep x t × LeadInto xs ts

-- the event is of a cell of the element that was passed for a formal, in a part that the body uses, with its kind
pub record IsUseOf (us : List FormalUse) (xs : List Thing) (e : Event) : Type 0 where
  pub u : FormalUse
  pub among : IsOneOf us u
  pub kind : u.kind ≡ e.kind
  pub at : Spot
  pub count : Option ℤ
  pub passed : slice_get xs u.formal ≡ Some (Element at count)
  pub steps : List Step
  pub reaches : Reaches at steps e.cell
  pub selected : LeadInto u.selectors steps

-- or it is of a variable that is declared in the call
abbrev pub IsShown : List FormalUse → List Thing → Thread → Event → Type 0
IsShown us xs t e = ((more : Thread) × (e.cell.thread ≡ (t ++ InCall ∷ []) ++ more)) ⊎ IsUseOf us xs e
