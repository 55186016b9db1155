-- Which files a text names.
use Rattle.std.specs.Prelude.{◌≡◌, ℕ, List, Option, Some, None}
use Rattle.std.specs.List.{filter_map}
use Rattle.occ_forms.specs.Prepared.{Prepared}
use Rattle.occ_forms.specs.declared.source.LineBody.{LineBody}
use Rattle.occ_forms.specs.declared.source.LineBody.TheVariants as line
use Rattle.occ_forms.specs.declared.source.SourceLine.{SourceLine}
use Rattle.occ_lines.specs.Listing.{listed}

-- the file that a line names, with the list that a library has
abbrev pub named_by : LineBody → Option (List ℕ × Option (List ℕ))
named_by (line.Include file) = Some (file, None)
named_by (line.Uses unit list) = Some (unit, list)
named_by (line.Form form) = None
named_by (line.Fault fault) = None

-- those of all lines
abbrev pub named_in : List SourceLine → List (List ℕ × Option (List ℕ))
named_in lines = filter_map (λ line. named_by line.body) lines

-- two texts name the same files, in the same order, and list the same units
abbrev pub AreAlike : Prepared → Prepared → Type 0
AreAlike one other = (named_in one.lines ≡ named_in other.lines) × (listed one.text ≡ listed other.text)
