-- A file that is new to a project, and that none of its files looks for.
use Rattle.std.specs.Prelude.{◌≡◌, ◌<◌, ◌≤◌, ℕ, false, List, length, None}
use Rattle.std.specs.List.{AllWithin}
use Rattle.std.specs.declared.cmp.Ordering.TheVariants.{Less, Greater}
use Rattle.occ_project.specs.Entries.{is_among}
use Rattle.occ_project.specs.Reads.{name_cmp, index}
use Rattle.occ_project.specs.declared.reads.Read.{Read}
use Rattle.occ_project_units.specs.Along.{name_at}
use Rattle.occ_project_units.specs.Units.{read_names, used_units}

-- no file has the name; those before the index have smaller names, and the others greater ones
pub record IsGap (name : List ℕ) (files : List Read) (at : ℕ) : Type 0 where
  pub within : at ≤ length files
  pub absent : index name files ≡ None
  pub before : AllWithin (λ file. name_cmp file.name name ≡ Less) files 0 at
  pub after : AllWithin (λ file. name_cmp file.name name ≡ Greater) files at (length files)

-- nor does any read or use a file of that name, which would stand at this index
pub record IsNew (files : List Read) (name : List ℕ) (at : ℕ) : Type 0 where
  pub gap : IsGap name files at
  pub unread : (p : ℕ) → p < length files → is_among (read_names files (name_at files p)) name ≡ false
  pub unused : (p : ℕ) → p < length files → is_among (used_units files (name_at files p)) name ≡ false
