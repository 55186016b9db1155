-- What the search for a file came to.
use Rattle.std.specs.Prelude.{ℕ, List, [], Some, None}
use Rattle.std.specs.String.{string_bytes}
use Rattle.occ_files.specs.Paths.{IsFirst, Known}
use Rattle.occ_files.specs.Refusals.{IsRight}
use Rattle.occ_files.specs.declared.finding.Search.{Search}
use Rattle.occ_files.specs.declared.finding.Search.TheVariants as search

-- the first of these folders that has a file of the name has this; or none has one; or it is right that one cannot be read
abbrev pub IsSearch : Known → List (List ℕ) → List ℕ → Search → Type 0
IsSearch known folders name (search.Found found) = IsFirst known folders name (Some (string_bytes found.path, found.bytes.items))
IsSearch known folders name search.Nowhere = IsFirst known folders name None
IsSearch known folders name (search.Refused refusal) = IsRight (known (string_bytes refusal.path)) [] (string_bytes refusal.path) refusal.why
