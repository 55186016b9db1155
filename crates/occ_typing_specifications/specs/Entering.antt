-- What a line adds to the names in scope.
use Rattle.std.specs.Prelude.{Option, None, List, [], ◌∷◌}
use Rattle.occ_scope.specs.declared.meaning.ScopeEntry.{ScopeEntry}
use Rattle.occ_base.specs.declared.fault.Fault.{Fault}

-- the faults of a line, and what comes into scope by it
pub record Declared : Type 0 where
  pub faults : List Fault
  pub adds : List ScopeEntry

-- nothing is known of the names of a line that reported something
abbrev pub unless_reported : {X : Type 0} → List Fault → Option X → Option X
unless_reported [] x = x
unless_reported (fault ∷ faults) x = None
