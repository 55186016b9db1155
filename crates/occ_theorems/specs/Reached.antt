-- Which bases and journals come up: a base is what legal journals made, one after the other, each cut off by a checkpoint.
use Rattle.std.specs.Prelude.{◌≡◌, List, [], ◌∷◌}
use Rattle.occ_board.specs.Journal.{IsLegal, base_after, nothing}
use Rattle.occ_board.specs.Machine.{State}
use Rattle.occ_board.specs.declared.base.Base.{Base}
use Rattle.occ_board.specs.declared.entry.Entry.{Entry}

-- the base that these journals make, one after the other
abbrev pub base_by : Base → List (List Entry) → Base
base_by base [] = base
base_by base (journal ∷ more) = base_by (base_after base journal) more

-- each is legal over what those before it made
abbrev pub AreLegal : Base → List (List Entry) → Type 0
AreLegal base [] = Unit {0}
AreLegal base (journal ∷ more) = IsLegal base journal × AreLegal (base_after base journal) more

abbrev pub IsReached : Base → Type 0
IsReached base = (journals : List (List Entry)) × AreLegal nothing journals × (base ≡ base_by nothing journals)

-- no edit of it should have been refused, before or after any checkpoint
abbrev pub IsSound : State → Type 0
IsSound s = IsReached s.base × IsLegal s.base s.journal
