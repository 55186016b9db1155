-- What holds of the files that were found so far.
use Rattle.std.specs.Prelude.{◌≡◌, ℕ, suc, true, List, [], ◌∷◌, Option, Some, None, if◌then◌else◌}
use Rattle.std.specs.BTreeMap.{BTreeMap, get}
use Rattle.std.specs.Option.{option_map}
use Rattle.std.specs.Str.{bytes_eq}
use Rattle.occ_files.specs.Gathering.{AreGiven, AreNamed, are_apart, is_met}
use Rattle.occ_files.specs.Paths.{Known}
use Rattle.occ_files.specs.Refusals.{AreRight}
use Rattle.occ_files.specs.declared.gathering.Gathered.{Gathered}
use Rattle.occ_files.specs.declared.gathering.Text.{Text}
use Rattle.occ_files.specs.declared.refusal.Refusal.{Refusal}
use Rattle.occ_project.specs.Reads.{name_cmp}

-- the place of the first one of that name
abbrev pub place_in : List Text → List ℕ → Option ℕ
place_in [] name = None
place_in (text ∷ texts) name = if bytes_eq text.name name then Some 0 else option_map suc (place_in texts name)

pub record AreFound (known : Known) (texts : List Text) (refusals : List Refusal) (places : BTreeMap (List ℕ) ℕ) : Type 0 where
  pub given : AreGiven known texts
  pub named : AreNamed texts
  pub right : AreRight known texts refusals
  pub apart : are_apart texts ≡ true
  pub placed : (name : List ℕ) → get name_cmp places name ≡ place_in texts name

-- the file at the path is there or refused
abbrev pub IsMet : Gathered → List ℕ → Type 0
IsMet found path = is_met found.texts.items found.refusals.items path ≡ true

-- what was met stays so
abbrev pub Keeps : Gathered → Gathered → Type 0
Keeps before now = (path : List ℕ) → IsMet before path → IsMet now path
