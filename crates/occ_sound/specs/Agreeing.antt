-- What the rules of uses know of a scope holds of it when it runs.
use Rattle.std.specs.Prelude.{◌≡◌, ◌⊎◌, ℕ, ℤ, ◌+ℤ◌, ◌+◌, true, Option, Some, None, List, [], ◌∷◌, ◌++◌, length, slice_get}
use Rattle.occ_project.specs.declared.expanded.Location.{Location}
use Rattle.occ_types.specs.declared.interface.PartSelector.{PartSelector}
use Rattle.occ_typing.specs.declared.tree.TypedLine.{TypedLine}
use Rattle.occ_usage_lines.specs.Entering.{entry_bounds, exported_uses}
use Rattle.occ_usage_lines.specs.Forms.{each_uses}
use Rattle.occ_usage_conflicts.specs.Bodies.{body_uses}
use Rattle.occ_usage_conflicts.specs.Components.{joined}
use Rattle.occ_usage_parts.specs.Parts.{At as AtPlace, Step as PartStep, To as ToField, lies, selects}
use Rattle.occ_usage_parts.specs.Places.{holds}
use Rattle.occ_usage_parts.specs.declared.part.Part.{Part}
use Rattle.occ_usage_parts.specs.declared.place.Ending.{Ending}
use Rattle.occ_usage_parts.specs.declared.place.Ending.TheVariants as e
use Rattle.occ_usage_parts.specs.declared.place.SelectedPart.{SelectedPart}
use Rattle.occ_usage_values.specs.Bounds.{Env}
use Rattle.occ_usage_values.specs.declared.bound.Bound.{Bound}
use Rattle.occ_usage_values.specs.declared.bound.Bound.TheVariants as b
use Rattle.occ_usage_values.specs.declared.uses.Use.{Use}
use Rattle.occ_usage.specs.Effect.{inner}
use Rattle.occ_usage.specs.Lines.{items_of}
use Rattle.occ_usage.specs.Trees.{head_of, under}
use Rattle.occ_running.specs.Memory.{At, Cell, IsOneOf, Reaches, Spot, Step, Thread, To, Variable}
use Rattle.occ_running.specs.Runs.{Event}
use Rattle.occ_running.specs.Scopes.{Body, Clock, Element, Formal, Formula, Held, Other, Scope, Shown, Stored, Thing}
use Rattle.occ_running.specs.Works.{Tells}

-- ---- steps

abbrev pub step_of : Step → PartStep
step_of (To name) = ToField name
step_of (At k) = AtPlace k

abbrev pub steps_of : List Step → List PartStep
steps_of [] = []
steps_of (t ∷ ts) = step_of t ∷ steps_of ts

-- ---- cells in parts

-- the variable, channel or formal that a name stands for
abbrev pub origin : ℕ → Option Thing → Option Spot
origin n (Some (Stored thread)) = Some (Variable n thread)
origin n (Some (Formal el)) = Some el
origin n _ = None

-- from its root the part's selectors lead to the cell
pub record InPart (d : Scope) (p : Part) (c : Cell) : Type 0 where
  pub start : Spot
  pub is : origin p.root (slice_get d p.root) ≡ Some start
  pub steps : List Step
  pub reaches : Reaches start steps c
  pub inside : lies p.selectors (steps_of steps) ≡ true

-- one of these uses is of the event's kind and of a part in which its cell lies
pub record Shared (d : Scope) (us : List Use) (e : Event) : Type 0 where
  pub u : Use
  pub among : IsOneOf us u
  pub kind : u.kind ≡ e.kind
  pub cell : InPart d u.part e.cell

-- this runs in these components and calls, or in some of them
abbrev pub Extends : Thread → Thread → Type 0
Extends [] more = Unit {0}
Extends (k ∷ ks) [] = ⊥
Extends (k ∷ ks) (m ∷ more) = (k ≡ m) × Extends ks more

-- the event is of a variable declared inside, or one of these uses covers it
abbrev pub Covered : Scope → Thread → List Use → Event → Type 0
Covered d t us e = Extends t e.cell.thread ⊎ Shared d us e

-- ---- elements at places

-- each selector selects its step
abbrev pub AreSelected : List PartSelector → List Step → Type 0
AreSelected [] [] = Unit {0}
AreSelected [] (t ∷ ts) = ⊥
AreSelected (x ∷ xs) [] = ⊥
AreSelected (x ∷ xs) (t ∷ ts) = (selects x (step_of t) ≡ true) × AreSelected xs ts

abbrev pub Knows : Option ℤ → ℤ → Type 0
Knows None k = Unit {0}
Knows (Some x) k = x ≡ k

-- steps from an element, counted from where its last segment begins, and the same from what that is a segment of
abbrev pub IsCounted : Ending → List Step → List Step → Type 0
IsCounted e.Plain own tail = tail ≡ own
IsCounted (e.Segment i base) [] tail = ⊥
IsCounted (e.Segment i base) (To name ∷ own) tail = ⊥
IsCounted (e.Segment i base) (At k ∷ own) tail = (first : ℤ) × Knows base first × (holds i.places (first +ℤ k) ≡ true) × (tail ≡ At (first +ℤ k) ∷ own)
IsCounted e.Whole own tail = Unit {0}

-- steps from an element at the place, and the same from the root
pub record Follows (p : SelectedPart) (own whole : List Step) : Type 0 where
  pub front : List Step
  pub tail : List Step
  pub is : whole ≡ front ++ tail
  pub selected : AreSelected p.selectors front
  pub counted : IsCounted p.ending own tail

-- the element lies where the place says
pub record LiesAt (d : Scope) (p : SelectedPart) (at : Spot) : Type 0 where
  pub start : Spot
  pub is : origin p.root (slice_get d p.root) ≡ Some start
  pub follows : (own : List Step) (c : Cell) → Reaches at own c → (whole : List Step) × Reaches start whole c × Follows p own whole

abbrev pub IsAt : Scope → Option SelectedPart → Spot → Type 0
IsAt d None at = ⊥
IsAt d (Some p) at = LiesAt d p at

-- ---- scopes

-- what the rules know of the body of a PROC or a FUNCTION: its uses
abbrev pub uses_of_body : Env → TypedLine → List Use
uses_of_body env l = body_uses (length env) (length env + length (head_of l).enters) (head_of l).place (joined (items_of (under l) (inner env (head_of l))))

abbrev pub Matches : Env → Scope → Bound → Thing → Type 0
Matches env d (b.Value v size reads) (Held x n) = Tells v x × Tells size n
Matches env d (b.Root name) (Stored thread) = Unit {0}
Matches env d (b.Root name) (Formal el) = Unit {0}
Matches env d (b.Root name) (Clock n) = Unit {0}
Matches env d (b.Abbreviation place size reads) (Element at n) = IsAt d place at × Tells size n
Matches env d (b.Abbreviation place size reads) (Held x n) = Tells size n
Matches env d (b.Abbreviation place size reads) (Clock n) = Tells size n
Matches env d (b.Body uses does) (Body l) = uses ≡ uses_of_body env l
Matches env d (b.Body uses does) (Formula formals results) =
    (line : Location) × (uses ≡ body_uses (length env) (length (env ++ entry_bounds formals)) line (each_uses results (env ++ entry_bounds formals) line))
Matches env d (b.Body uses does) (Shown us) = (line : Location) × (uses ≡ exported_uses (length env) line us)
Matches env d b.Other (Clock n) = Unit {0}
Matches env d bound Other = Unit {0}
Matches env d _ _ = ⊥

-- each specification with what it is, in the scope of those before it
pub data Agrees : Env → Scope → Type 0 where
  empty_scope : Agrees [] []
  one_more : (env : Env) (d : Scope) (bound : Bound) (x : Thing) → Agrees env d → Matches env d bound x → Agrees (env ++ bound ∷ []) (d ++ x ∷ [])
