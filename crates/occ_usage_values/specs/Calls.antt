-- What a call does by the uses of the body that is called.
use Rattle.std.specs.Prelude.{ℕ, ◌-◌, nat_lt, Option, Some, None, List, [], ◌∷◌, ◌++◌, slice_get, if◌then◌else◌}
use Rattle.occ_usage_parts.specs.Selecting.{followed_by, part_of}
use Rattle.occ_usage_parts.specs.declared.place.SelectedPart.{SelectedPart}
use Rattle.occ_project.specs.declared.expanded.Location.{Location}
use Rattle.occ_types.specs.declared.interface.UseKind.{UseKind}
use Rattle.occ_usage_values.specs.Uses.{at_line}
use Rattle.occ_usage_values.specs.declared.uses.Use.{Use}

-- A call that is evaluated at a line.
pub record Call : Type 0 where
  -- the number of the specification that is called
  pub callee : ℕ
  -- what each actual is: nothing that is used, where its formal is VAL, or where it is a timer
  pub places : List (Option SelectedPart)
  -- what the values and the subscripts of its actuals use
  pub reads : List Use
  -- what its body uses
  pub uses : List Use

-- a use of a place, if it is one that is used
abbrev pub made : Location → UseKind → Option SelectedPart → List Use
made line kind None = []
made line kind (Some p) = (record { part = part_of p; kind = kind; line = line; chain = p.chain }) ∷ []

-- of a part of a formal that has this actual
abbrev pub of_actual : Location → Use → Option SelectedPart → List Use
of_actual line u None = []
of_actual line u (Some p) = (record { part = followed_by p u.part.selectors; kind = u.kind; line = line; chain = p.chain }) ∷ []

-- the actual, where there is one for the formal
abbrev pub named_by : Option (Option SelectedPart) → Option SelectedPart
named_by None = None
named_by (Some place) = place

-- by one use in the body: what stands round the body stays what it is, and a formal is its actual
abbrev pub called : Location → ℕ → List (Option SelectedPart) → Use → List Use
called line callee places u =
    if nat_lt u.part.root callee
    then at_line u line ∷ []
    else of_actual line u (named_by (slice_get places (u.part.root - callee)))

abbrev pub called_all : Location → ℕ → List (Option SelectedPart) → List Use → List Use
called_all line callee places [] = []
called_all line callee places (u ∷ us) = called line callee places u ++ called_all line callee places us
