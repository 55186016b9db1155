-- Which replicators are known, and how often the lines under them then stand. Of a replicator of constants it is asked how
-- often the lines round it stand already, by the known replicators round it in the same PROC or FUNCTION.
use Rattle.std.specs.Prelude.{ℕ, ◌*◌, max, nat_le, Option, Some, None, List, [], ◌∷◌, if◌then◌else◌}
use Rattle.occ_base.specs.declared.code.Code.{Code}
use Rattle.occ_base.specs.declared.code.Code.TheVariants as code
use Rattle.occ_base.specs.declared.fault.Fault.{Fault}
use Rattle.occ_typing_statements.specs.declared.replicator_tree.KnownReplicator.{KnownReplicator}

-- up to 4,096 times; a count of 0 counts as 1
abbrev pub within : ℕ → Option ℕ
within n = if nat_le n 4096 then Some n else None

-- how often lines under a replicator of this count stand, where those round it stand so often
abbrev pub times : ℕ → ℕ → Option ℕ
times rounds count = within (rounds * max count 1)

-- a replicator, if it is known, and how often the lines under it stand
pub record Counted : Type 0 where
  pub known : Option KnownReplicator
  pub rounds : ℕ

-- one that is not known does not count
abbrev pub uncounted : ℕ → Counted
uncounted rounds = record { known = None; rounds = rounds }

abbrev pub counted_so : ℕ → KnownReplicator → Option ℕ → Counted
counted_so rounds x None = uncounted rounds
counted_so rounds x (Some n) = record { known = Some x; rounds = n }

abbrev pub counted : ℕ → Option KnownReplicator → Counted
counted rounds None = uncounted rounds
counted rounds (Some x) = counted_so rounds x (times rounds x.count)

-- ---- of a PAR

abbrev pub named : Code → List ℕ → List Fault
named c name = (record { code = c; name = Some name }) ∷ []

abbrev pub too_often : List ℕ → Option ℕ → List Fault
too_often name None = named code.R2 name
too_often name (Some n) = []

-- base and count are constant, the count is from 0 to 256, and the replicator is known
abbrev pub parallel_faults : List ℕ → ℕ → Option KnownReplicator → List Fault
parallel_faults name rounds None = named code.R1 name
parallel_faults name rounds (Some x) = if nat_le x.count 256 then too_often name (times rounds x.count) else named code.R1 name
