-- Executions: runs of which the events, in some order, fit a store.
use Rattle.std.specs.Prelude.{◌≡◌, ◌≢◌, Option, List, [], ◌∷◌, ◌++◌}
use Rattle.occ_types.specs.declared.interface.UseKind.{UseKind}
use Rattle.occ_types.specs.declared.interface.UseKind.TheVariants as kind
use Rattle.occ_types.specs.declared.value.Value.{Value}
use Rattle.occ_running.specs.Memory.{Cell, Thread}
use Rattle.occ_running.specs.Running.{Does, Outcome}
use Rattle.occ_running.specs.Runs.{Beside, Event, Quiet, Run, Then, Touch}
use Rattle.occ_running.specs.Scopes.{Scope}
use Rattle.occ_running.specs.Works.{Work}

pub data Merges : List Event → List Event → List Event → Type 0 where
  merged : Merges [] [] []
  left : (e : Event) (xs ys zs : List Event) → Merges xs ys zs → Merges (e ∷ xs) ys (e ∷ zs)
  right : (e : Event) (xs ys zs : List Event) → Merges xs ys zs → Merges xs (e ∷ ys) (e ∷ zs)

-- the events of a run, one behind the other: those of what runs beside one another in any order that keeps the order of each
pub data Orders : Run → List Event → Type 0 where
  quiet : Orders Quiet []
  touch : (e : Event) → Orders (Touch e) (e ∷ [])
  in_turn : (r s : Run) (xs ys : List Event) → Orders r xs → Orders s ys → Orders (Then r s) (xs ++ ys)
  beside : (r s : Run) (xs ys zs : List Event) → Orders r xs → Orders s ys → Merges xs ys zs → Orders (Beside r s) zs

abbrev pub Store : Type 0
Store = Cell → Option Value

abbrev pub IsSame : Store → Store → Type 0
IsSame before after = (c : Cell) → after c ≡ before c

-- A read finds the value that is there, a write leaves its value and changes no other cell. An input or an output changes no cell:
-- what is received is written where it goes.
abbrev pub StepOf : UseKind → Store → Event → Store → Type 0
StepOf kind.Read before e after = (before e.cell ≡ e.value) × IsSame before after
StepOf kind.Write before e after = (after e.cell ≡ e.value) × ((c : Cell) → c ≢ e.cell → after c ≡ before c)
StepOf kind.Input before e after = IsSame before after
StepOf kind.Output before e after = IsSame before after

pub data Goes : Store → List Event → Store → Type 0 where
  ends : (s : Store) → Goes s [] s
  goes : (e : Event) (es : List Event) (before next after : Store) → StepOf e.kind before e next → Goes next es after → Goes before (e ∷ es) after

-- the work runs from a store, with these events in this order
pub record Execution (d : Scope) (t : Thread) (w : Work) (before : Store) (events : List Event) : Type 0 where
  pub outcome : Outcome
  pub run : Run
  pub runs : Does d t w run outcome
  pub orders : Orders run events
  pub after : Store
  pub goes : Goes before events after
