-- What the check of a unit looks at.
use Rattle.std.specs.Prelude.{◌≡◌, ◌&&◌, ℕ, Bool, true, List, map}
use Rattle.std.specs.Option.{is_some}
use Rattle.occ_base.specs.FileName.{is_unit}
use Rattle.occ_check.specs.declared.used.UsedUnit.{UsedUnit}
use Rattle.occ_project.specs.Expansion.{Expansion, expansion}
use Rattle.occ_project.specs.Reads.{open_lines}
use Rattle.occ_project.specs.Uses.{used_in}
use Rattle.occ_project.specs.declared.reads.Read.{Read}

-- a unit, the files that it reads, and the units that it uses with how each stands
pub record Input : Type 0 where
  pub unit : List ℕ
  pub reads : List Read
  pub used : List UsedUnit

-- the unit with the files that it includes
abbrev pub expansion_in : Input → Expansion
expansion_in i = expansion i.reads i.unit

-- the unit is one, and it has a text
abbrev pub is_present : Input → Bool
is_present i = is_unit i.unit && is_some (open_lines i.reads i.unit)

-- a unit that has a text, with exactly the files that its expansion looks up, in order
pub record HasReads (i : Input) : Type 0 where
  pub present : is_present i ≡ true
  pub names : map (λ r. r.name) i.reads ≡ (expansion_in i).reads

-- with exactly the units that it uses, in order of name
abbrev pub HasUsed : Input → Type 0
HasUsed i = map (λ u. u.unit) i.used ≡ used_in (expansion_in i).lines

-- there is a check of it
abbrev pub IsInput : Input → Type 0
IsInput i = HasReads i × HasUsed i
