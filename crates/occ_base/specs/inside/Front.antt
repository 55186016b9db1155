-- What of a file name is compared first.
use Rattle.std.specs.Prelude.{ℕ, List, take}
use Rattle.occ_base.specs.Padded.{padded}

-- the first 16 bytes as it is held, some of them zeros perhaps
abbrev pub front : List ℕ → List ℕ
front name = take 16 (padded name).bytes
