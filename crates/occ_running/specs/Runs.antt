-- Runs: what is touched, what comes before what, and what runs beside what; and when a run has a race.
use Rattle.std.specs.Prelude.{◌≡◌, ◌⊎◌, Bool, true, false, Option}
use Rattle.occ_types.specs.declared.interface.UseKind.{UseKind}
use Rattle.occ_types.specs.declared.interface.UseKind.TheVariants as kind
use Rattle.occ_types.specs.declared.value.Value.{Value}
use Rattle.occ_running.specs.Memory.{Cell}

-- A cell is read or written, or a process inputs from a channel or outputs to it. The value of what is no number is not told.
pub record Event : Type 0 where
  pub kind : UseKind
  pub cell : Cell
  pub value : Option Value

pub data Run : Type 0 where
  Quiet : Run
  Touch : Event → Run
  Then : Run → Run → Run
  -- of components of a PAR: what one of them does, and what those after it do
  Beside : Run → Run → Run

-- a run has this event
abbrev pub Occurs : Event → Run → Type 0
Occurs e Quiet = ⊥
Occurs e (Touch f) = e ≡ f
Occurs e (Then r s) = Occurs e r ⊎ Occurs e s
Occurs e (Beside r s) = Occurs e r ⊎ Occurs e s

-- one writes and the other reads or writes, both input, or both output
abbrev pub collide : UseKind → UseKind → Bool
collide kind.Read kind.Read = false
collide kind.Read kind.Write = true
collide kind.Read kind.Input = false
collide kind.Read kind.Output = false
collide kind.Write kind.Read = true
collide kind.Write kind.Write = true
collide kind.Write kind.Input = false
collide kind.Write kind.Output = false
collide kind.Input kind.Read = false
collide kind.Input kind.Write = false
collide kind.Input kind.Input = true
collide kind.Input kind.Output = false
collide kind.Output kind.Read = false
collide kind.Output kind.Write = false
collide kind.Output kind.Input = false
collide kind.Output kind.Output = true

-- of one cell
abbrev pub Race : Event → Event → Type 0
Race e f = (e.cell ≡ f.cell) × (collide e.kind f.kind ≡ true)

abbrev pub NoRace : Run → Run → Type 0
NoRace r s = (e f : Event) → Occurs e r → Occurs f s → Race e f → ⊥

-- whatever runs beside one another has no race
abbrev pub RaceFree : Run → Type 0
RaceFree Quiet = Unit {0}
RaceFree (Touch e) = Unit {0}
RaceFree (Then r s) = RaceFree r × RaceFree s
RaceFree (Beside r s) = RaceFree r × RaceFree s × NoRace r s
